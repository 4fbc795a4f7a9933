use Rattle.std.proofs.Common.{◌≡◌, ℕ, ◌<◌, get_or}
use Rattle.cl_model.specs.ByNumber.{no_runnable}
use Rattle.cl_runs.specs.SystemOf.{range_of}
use Rattle.cl_incr.proofs.timings.have_same_ranges.Given as goal

abbrev pub invariant-loop-place : goal.invariant-loop-place
invariant-loop-place l = (k : ℕ) → k < l.place → range_of (get_or l.one k no_runnable) ≡ range_of (get_or l.other k no_runnable)
