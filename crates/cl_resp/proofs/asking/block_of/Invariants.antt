use Rattle.std.proofs.Common.{◌≡◌, take}
use Rattle.std.specs.Prelude.{filter}
use Rattle.cl_model.specs.Holds.{greatest_by}
use Rattle.cl_resp.proofs.Questions.{hold_at, may_hold}
use Rattle.cl_resp.proofs.asking.block_of.Given as goal

-- the longest hold of the tasks so far that may
abbrev pub invariant-loop-other : goal.invariant-loop-other
invariant-loop-other l = l.block ≡ greatest_by (hold_at l.model) (filter (may_hold l.model l.blocking l.task) (take l.other-index l.other-items))
