-- The groups of a chain on its walks, by their places: their paces, their lags, and where walks start.
use Rattle.std.proofs.Common.{◌≡◌, ℕ, zero, suc, ◌<◌, ◌≤◌, Option, Some, None, List, [], ◌∷◌, All, length, refl, ap, arith}
use Rattle.std.proofs.lemmas.Bool.{cond_both}
use Rattle.cl_model.specs.{declared.{group.Group.Group, stimulus.StimulusKind.StimulusKind}, Groups.group_at, Timing.greatest_distance}
use Rattle.cl_runs.specs.TaskTiming.{System, timing_at, IsSound}
use Rattle.cl_stim.specs.{declared.phase.Phase.Phase, Phase.phase_of}
use Rattle.cl_hop.specs.{Hops.lag, declared.group_timing.GroupTiming.GroupTiming, Timings.IsGroupOfTask}
use Rattle.cl_phase.specs.{declared.stop.Stop.Stop, Pace.{IsPace, PaceComesRound, greatest_step}, Kept.{phase_beside, kept_with, pace_with, come_round_soon}, Walks.{pace_at, lag_at}, TightBounds.{stops_beside, hyperperiod_in, slowest}}
use Rattle.cl_phase.proofs.{PatternPaces.{IsPaceOf, pace_is, pace_step}, Stepped.IsStepped, PaceSteps.paces_step, SlowestFacts.{ArePaced, hyperperiod_comes_round, hyperperiod_is_some, slowest_within}}

-- the pace that a pattern is given is one that is known of it
pub given_pace : (pattern : StimulusKind) (kept : List Phase) → IsPaceOf pattern (pace_with (greatest_distance pattern) (phase_beside kept (phase_of pattern)))
given_pace pattern kept = by (phase_of pattern) refl
  where
    by : (o : Option Phase) → phase_of pattern ≡ o → IsPaceOf pattern (pace_with (greatest_distance pattern) (phase_beside kept o))
    by None is = refl
    by (Some phase) is = cond_both (come_round_soon (phase ∷ kept)) (Some phase) None
        (λ o. IsPaceOf pattern (pace_with (greatest_distance pattern) o)) (λ yes. is) (λ no. refl)

module _ (system : System) (timing : Group → GroupTiming) where
  pub length_stops : (groups : List Group) (kept : List Phase) → length (stops_beside system timing kept groups) ≡ length groups
  unfolding stops_beside
  length_stops [] kept = refl
  length_stops (group ∷ later) kept = ap suc (length_stops later (kept_with kept (phase_beside kept (phase_of (timing_at system group.task).pattern))))

  -- the pace at a place is one of the pattern of that group's task
  pub stop_pace : (groups : List Group) (kept : List Phase) (place : ℕ) → place < length groups
      → IsPaceOf (timing_at system (group_at groups place).task).pattern (pace_at (stops_beside system timing kept groups) place)
  unfolding stops_beside
  stop_pace [] kept place within = absurd (omega (arith, within))
  stop_pace (group ∷ later) kept zero within = given_pace (timing_at system group.task).pattern kept
  stop_pace (group ∷ later) kept (suc place) within =
      stop_pace later (kept_with kept (phase_beside kept (phase_of (timing_at system group.task).pattern))) place (omega (arith, within))

  -- the lag there is that of the hop to the next group
  pub stop_lag : (groups : List Group) (kept : List Phase) (place : ℕ) → suc place < length groups
      → lag_at (stops_beside system timing kept groups) place
      ≡ lag (timing (group_at groups place)) (timing (group_at groups (suc place)))
  unfolding stops_beside
  stop_lag [] kept place within = absurd (omega (arith, within))
  stop_lag (group ∷ []) kept place within = absurd (omega (arith, within))
  stop_lag (group ∷ next ∷ later) kept zero within = refl
  stop_lag (group ∷ next ∷ later) kept (suc place) within =
      stop_lag (next ∷ later) (kept_with kept (phase_beside kept (phase_of (timing_at system group.task).pattern))) place (omega (arith, within))

  module _ (sound : IsSound system) (groups : List Group) (all : All (IsGroupOfTask system) groups) (kept : List Phase) where
    abbrev stops : List Stop
    stops = stops_beside system timing kept groups

    group_task : (place : ℕ) → place < length groups → (group_at groups place).task < length system.tasks
    group_task place within = (all place _ within).is_task

    pub stop_is_pace : (place : ℕ) → place < length groups → IsPace (pace_at stops place)
    stop_is_pace place within = pace_is (timing_at system (group_at groups place).task).pattern (pace_at stops place)
        (stop_pace groups kept place within) (sound.tasks (group_at groups place).task (group_task place within)).pattern

    -- it goes no further than the pattern's greatest distance
    pub stop_step : (place : ℕ) → place < length groups
        → greatest_step (pace_at stops place) ≡ greatest_distance (timing_at system (group_at groups place).task).pattern
    stop_step place within = pace_step (timing_at system (group_at groups place).task).pattern (pace_at stops place) (stop_pace groups kept place within)

    -- so all places have a pace that goes on
    pub stops_are_paced : ArePaced stops
    stops_are_paced place within = stop_is_pace place (omega (arith, within, length_stops groups kept))

    -- whose steps are as walks need them
    pub stops_step : (place : ℕ) → place < length groups → IsStepped (pace_at stops place)
    stops_step place within = paces_step (pace_at stops place) (stop_is_pace place within)

    pub stops_come_round : (place : ℕ) → place < length groups → PaceComesRound (hyperperiod_in stops) (pace_at stops place)
    stops_come_round place within = hyperperiod_comes_round stops stops_are_paced place (omega (arith, within, length_stops groups kept))

    pub stops_hyperperiod : 1 ≤ hyperperiod_in stops
    stops_hyperperiod = hyperperiod_is_some stops stops_are_paced

    pub stops_slowest : 0 < length groups → slowest stops < length groups
    stops_slowest some = omega (arith, slowest_within stops (omega (arith, some, length_stops groups kept)), length_stops groups kept)
