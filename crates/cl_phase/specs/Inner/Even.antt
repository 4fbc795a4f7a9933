-- Walks that change evenly from start to start. Times are in ticks.
use Rattle.std.specs.Prelude.{◌≡◌, ℕ, ◌+◌, ◌*◌, ◌≤◌, ℤ, pos, ◌+ℤ◌}
use Rattle.std.specs.Int.{◌∣◌}
use Rattle.cl_phase.specs.{declared.pace.Pace.{Pace, TheVariants.{Kept, Free}}, Pace.PaceComesRound}

-- so many ticks are whole turns of a pace, as many each of so many times
abbrev pub AreEvenTurns : Pace → (ticks times : ℕ) → Type 0
AreEvenTurns (Kept phase) ticks times = (times * phase.period) ∣ ticks
AreEvenTurns (Free greatest) ticks times = Unit {0}

-- from an arrival on, and with each stride, a walk leads to a moment that lies some whole turns of a pace later
pub record LeadsEvenly (pace : Pace) (walk : ℤ → ℤ) (arrival stride strides : ℕ) : Type 0 where
  pub turns : ℕ
  pub round : PaceComesRound turns pace
  pub evenly : (done : ℕ) → done ≤ strides
      → walk (pos (arrival + done * stride)) ≡ (walk (pos arrival) +ℤ pos (done * turns))
