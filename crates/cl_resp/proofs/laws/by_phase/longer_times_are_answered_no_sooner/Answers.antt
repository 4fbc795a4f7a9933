use Rattle.cl_resp.proofs.AskedLess.{settled_sooner, late_stays_late, through_sooner}
use Rattle.cl_resp.proofs.laws.by_phase.longer_times_are_answered_no_sooner.Goals as goal

pub returns-clause-whole : goal.returns-clause-whole
returns-clause-whole c = settled_sooner

pub returns-clause-late : goal.returns-clause-late
returns-clause-late c = late_stays_late

pub returns-clause-through : goal.returns-clause-through
returns-clause-through c = through_sooner
