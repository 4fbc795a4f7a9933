use Rattle.std.proofs.Common.{◌≡◌, take}
use Rattle.cl_model.proofs.list.ListTryCopy.try_copy.Given as goal

-- the items so far are copied
abbrev pub invariant-loop-item : goal.invariant-loop-item
invariant-loop-item g l = l.copy ≡ take l.item-index l.self
