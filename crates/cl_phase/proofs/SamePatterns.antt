-- Tight bounds rest on no more of a system than the arrival patterns of its tasks: over the same timings they are the same
-- in two systems whose tasks arrive alike. Each proof is the definition with the patterns of one system turned into those
-- of the other.
use Rattle.std.proofs.Common.{◌≡◌, ℕ, List, [], ◌∷◌, refl}
use Rattle.cl_model.specs.{declared.group.Group.Group, Timing.greatest_distance}
use Rattle.cl_runs.specs.TaskTiming.{System, timing_at}
use Rattle.cl_stim.specs.{declared.phase.Phase.Phase, Phase.phase_of}
use Rattle.cl_hop.specs.declared.group_timing.GroupTiming.{GroupTiming}
use Rattle.cl_phase.specs.{Kept.{phase_beside, kept_with, pace_with}, TightBounds.{lag_to_next, stops_beside, span_of, last_write, slowest, bounds_from, tight_bounds}}

module _ (one other : System) (alike : (task : ℕ) → (timing_at one task).pattern ≡ (timing_at other task).pattern) (timing : Group → GroupTiming) where
  -- the groups have the same paces
  same_stops : (kept : List Phase) (groups : List Group) → stops_beside one timing kept groups ≡ stops_beside other timing kept groups
  unfolding stops_beside
  same_stops kept [] = refl
  same_stops kept (group ∷ later) = λ i.
      record {
        pace = pace_with (greatest_distance (alike group.task i)) (phase_beside kept (phase_of (alike group.task i)));
        lag = lag_to_next timing group later;
      }
      ∷ same_stops (kept_with kept (phase_beside kept (phase_of (alike group.task i)))) later i

  pub same_bounds : (groups : List Group) → tight_bounds one timing groups ≡ tight_bounds other timing groups
  unfolding tight_bounds
  same_bounds groups = λ i.
      bounds_from (same_stops [] groups i) (span_of timing groups) (last_write timing groups) (slowest (same_stops [] groups i))
