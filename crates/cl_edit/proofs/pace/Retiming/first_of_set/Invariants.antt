use Rattle.cl_edit.specs.Inner.Paces.{with_retiming}
use Rattle.cl_edit.proofs.RefusedPairs.{SetSeen}
use Rattle.cl_edit.proofs.pace.Retiming.first_of_set.Given as goal

-- the pairs of the tasks so far are seen
abbrev pub invariant-loop-it : goal.invariant-loop-it
invariant-loop-it l = SetSeen l.fault (with_retiming l.model l.self) l.first l.set l.it-index
