use Rattle.std.proofs.Common.{ℕ, ◌+◌, ◌<◌, ◌≤◌, length}
use Rattle.cl_exact.specs.Inner.Beats.{beat_in}
use Rattle.cl_exact.proofs.start_up.latest_second.Given as goal

abbrev pub invariant-loop-beat : goal.invariant-loop-beat
invariant-loop-beat l = record {
  above : (place : ℕ) → place < l.beat-index → (beat_in l.beats place).offset + (beat_in l.beats place).period ≤ l.latest;
  least : (other : ℕ) → ((place : ℕ) → place < length l.beats → (beat_in l.beats place).offset + (beat_in l.beats place).period ≤ other) → l.latest ≤ other;
}
