use Rattle.std.proofs.Common.{◌≡◌, ℕ, ◌<◌, get_or}
use Rattle.cl_incr.specs.Inner.Standing.{timing_in}
use Rattle.cl_incr.proofs.standing.core_stays.Given as goal

abbrev pub invariant-loop-place : goal.invariant-loop-place
invariant-loop-place l = (k : ℕ) → k < l.place → timing_in l.old (get_or l.were k 0) ≡ timing_in l.new (get_or l.are k 0)
