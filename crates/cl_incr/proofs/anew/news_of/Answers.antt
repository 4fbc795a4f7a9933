use Rattle.std.proofs.Common.{length}
use Rattle.cl_incr.specs.Changed.{IsChangedChain}
use Rattle.cl_incr.proofs.AskedSteps.{asks_none, asks_for_changes}
use Rattle.cl_incr.proofs.anew.news_of.Goals as goal

pub returns-in_err-tasks-clause-steps : goal.returns-in_err-tasks-clause-steps
returns-in_err-tasks-clause-steps g c =
    let now = c.answer_tasks.new.steps in
    asks_for_changes c.args.old.now c.args.new.now (length c.args.new.now.tasks) 0 c.args.steps.now now now c.answer_tasks.ensures.steps
    (asks_none (IsChangedChain c.args.old.now c.args.new.now) 2 now)

pub returns-in_err-blank_verdicts-clause-steps : goal.returns-in_err-blank_verdicts-clause-steps
returns-in_err-blank_verdicts-clause-steps g c =
    asks_for_changes c.args.old.now c.args.new.now (length c.args.new.now.tasks) (length c.args.new.now.chains) c.args.steps.now c.answer_tasks.new.steps
    c.find_chains.new.steps c.answer_tasks.ensures.steps c.find_chains.ensures.steps

pub returns-clause-steps : goal.returns-clause-steps
returns-clause-steps g c =
    asks_for_changes c.args.old.now c.args.new.now (length c.args.new.now.tasks) (length c.args.new.now.chains) c.args.steps.now c.answer_tasks.new.steps
    c.find_chains.new.steps c.answer_tasks.ensures.steps c.find_chains.ensures.steps
