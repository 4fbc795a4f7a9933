use Rattle.cl_edit.specs.Inner.Paces.{with_retiming}
use Rattle.cl_edit.proofs.RefusedPairs.{BesideSeen}
use Rattle.cl_edit.proofs.pace.Retiming.first_beside.Given as goal

-- the pairs with the others so far are seen
abbrev pub invariant-loop-other : goal.invariant-loop-other
invariant-loop-other l = BesideSeen l.fault (with_retiming l.model l.self) l.fn.first l.first l.others l.task l.other-index
