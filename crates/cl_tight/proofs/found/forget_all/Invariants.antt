use Rattle.std.proofs.Common.{◌≡◌, ℕ, ◌<◌, None, length, get_or}
use Rattle.cl_tight.proofs.found.forget_all.Given as goal

-- those so far are forgotten
abbrev pub invariant-loop-place : goal.invariant-loop-place
invariant-loop-place l = record {
  as_many : length l.numbers ≡ length l.initial.numbers;
  none : (k : ℕ) → k < l.place → get_or l.numbers k None ≡ None;
}
