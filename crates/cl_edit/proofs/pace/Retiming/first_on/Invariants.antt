use Rattle.cl_edit.specs.Inner.Paces.{with_retiming}
use Rattle.cl_edit.proofs.RefusedPairs.{OnSeen}
use Rattle.cl_edit.proofs.pace.Retiming.first_on.Given as goal

-- the pairs of the tasks of the stimulus so far are seen
abbrev pub invariant-loop-task : goal.invariant-loop-task
invariant-loop-task l = OnSeen l.fault l.model (with_retiming l.model l.self) l.first l.stimulus l.task
