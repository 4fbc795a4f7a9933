use Rattle.std.proofs.Common.{◌≡◌, take, map}
use Rattle.cl_tune.proofs.Timings.{taken_at}
use Rattle.cl_tune.proofs.fitting.all_above.Given as goal

-- what the others so far take
abbrev pub invariant-loop-other : goal.invariant-loop-other
invariant-loop-other l = l.above ≡ map (taken_at l.model) (take l.other-index l.others)
