use Rattle.std.proofs.Common.{◌≡◌, ℕ, ◌<◌, ◌≤◌, length, slice_index}
use Rattle.cl_exact.specs.Inner.Beats.{forward_job}
use Rattle.cl_exact.proofs.walk.forward_jobs.Given as goal

abbrev pub invariant-loop-i : goal.invariant-loop-i
invariant-loop-i l = record {
  some : 1 ≤ l.i;
  room : length l.jobs ≡ 64;
  each : (place : ℕ) → place < l.i → slice_index l.jobs place ≡ forward_job l.beats l.first place;
}
