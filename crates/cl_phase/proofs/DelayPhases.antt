-- Walks from an arrival of a group that keeps its phase are answered by walks from an arrival of another that last as long or
-- longer from the arrival of the first group's job that takes.
use Rattle.std.proofs.Common.{ℕ, ℤ, suc, ◌+◌, ◌<◌, List, length, arith}
use Rattle.std.specs.Prelude.{◌≤ℤ◌}
use Rattle.std.proofs.lemmas.Int.{ints}
use Rattle.cl_phase.specs.{declared.stop.Stop.Stop, Pace.next, Walks.pace_at, TightBounds.delay_from}
use Rattle.cl_phase.proofs.{Stepped.IsStepped, PhaseAnswers.{LeadsTo, ahead, answer, last_is, back_no_later, last_no_earlier, first_no_later}, DelaySteps.next_rises}

module _ (stops : List Stop) (stepped : (place : ℕ) → place < length stops → IsStepped (pace_at stops place)) (write : ℕ) where
  module _ (from hops : ℕ) (Starts Ends : ℤ → Type 0) (within : from + suc hops < length stops) (starts_there : LeadsTo Starts (pace_at stops from))
      (ends_there : LeadsTo Ends (pace_at stops (from + suc hops))) where
    next_of_first : (one other : ℤ) → one ≤ℤ other → next (pace_at stops 0) one ≤ℤ next (pace_at stops 0) other
    next_of_first one other le = next_rises (pace_at stops 0) (stepped 0 (omega (arith, within))) one other le

    pub ahead_lasts : (arrival : ℤ) → Starts arrival
        → delay_from stops write from arrival ≤ℤ delay_from stops write (from + suc hops)
        (ahead stops stepped from hops Starts Ends within starts_there ends_there arrival)
    ahead_lasts arrival arrives = omega (
      arith,
      ints,
      last_is stops stepped from hops Starts Ends within starts_there ends_there arrival,
      next_of_first _ _ (back_no_later stops stepped from hops Starts Ends within starts_there ends_there arrival arrives),
    )

    pub answer_lasts : (arrival : ℤ)
        → delay_from stops write (from + suc hops) arrival ≤ℤ delay_from stops write from
        (answer stops stepped from hops Starts Ends within starts_there ends_there arrival)
    answer_lasts arrival = omega (
      arith,
      ints,
      last_no_earlier stops stepped from hops Starts Ends within starts_there ends_there arrival,
      next_of_first _ _ (first_no_later stops stepped from hops Starts Ends within starts_there ends_there arrival),
    )
