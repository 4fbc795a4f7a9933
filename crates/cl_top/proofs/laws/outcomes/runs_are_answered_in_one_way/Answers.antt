use Rattle.cl_top.proofs.EachRun.{replayed_in_one_way, answered_in_one_way}
use Rattle.cl_top.proofs.laws.outcomes.runs_are_answered_in_one_way.Goals as goal

pub returns-clause-replayed : goal.returns-clause-replayed
returns-clause-replayed c = replayed_in_one_way

pub returns-clause-each : goal.returns-clause-each
returns-clause-each c = answered_in_one_way
