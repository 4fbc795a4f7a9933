use Rattle.std.proofs.Common.{◌≡◌, take}
use Rattle.std.specs.Prelude.{filter}
use Rattle.cl_model.specs.Holds.{greatest_by}
use Rattle.cl_tune.specs.Inner.Times.{may_hold, hold_with}
use Rattle.cl_tune.proofs.in_time.block_of.Given as goal

-- the longest hold of the tasks so far that may
abbrev pub invariant-loop-other : goal.invariant-loop-other
invariant-loop-other l = l.block ≡ greatest_by (hold_with l.times) (filter (may_hold l.model l.task) (take l.other-index l.other-items))
