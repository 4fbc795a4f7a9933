use Rattle.std.proofs.Common.{◌≡◌, take}
use Rattle.cl_model.specs.Changes.{with_priorities}
use Rattle.cl_edit.specs.Inner.Paces.{priorities_of}
use Rattle.cl_edit.proofs.check_priorities.priorities_after.Given as goal

-- the priorities after those so far
abbrev pub invariant-loop-it : goal.invariant-loop-it
invariant-loop-it l = l.after.items ≡ priorities_of (with_priorities l.model (take l.it-index l.set))
