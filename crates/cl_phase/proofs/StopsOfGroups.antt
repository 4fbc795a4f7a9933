-- The stops of groups of a sound system are such as bounds by walks need.
use Rattle.std.proofs.Common.{◌≡◌, ℕ, ◌<◌, ◌⊎◌, inl, inr, List, [], length, sym, ◌∙◌, subst, arith}
use Rattle.std.specs.Prelude.{All}
use Rattle.cl_model.specs.{Groups.{no_group, group_at}, declared.group.Group.Group}
use Rattle.cl_runs.specs.TaskTiming.{System, IsSound}
use Rattle.cl_hop.specs.{declared.group_timing.GroupTiming.GroupTiming, Timings.{IsTimingOf, IsGroupOfTask}}
use Rattle.cl_phase.specs.{declared.stop.Stop.Stop, Walks.pace_at, TightBounds.{stops_of, hyperperiod_in, slowest}, Pace.IsPace}
use Rattle.cl_phase.proofs.{PaceSteps.paces_step, RunPaces.run_neighbours, SlowestFacts.{ArePaced, hyperperiod_comes_round, hyperperiod_is_some, slowest_within, slowest_keeps}, StartFacts.start_within, StopFacts.{length_stops, stop_pace, stop_lag, stop_is_pace, stop_step}}
use Rattle.cl_phase.proofs.{Walking.{KeepsPhase, IsFreeAt}, WalkStarts.AreStops, RunWalks.AreStopsOf, NoGreaterSums.AreStepsOf}

-- all that they need
pub record HaveStops (system : System) (timing : Group → GroupTiming) (groups : List Group) : Type 0 where
  pub are : AreStops (stops_of system timing groups) (slowest (stops_of system timing groups))
  pub of : AreStopsOf system timing groups (stops_of system timing groups)

-- walks start from a group that keeps its phase, or from the first where none does
starts_from : (stops : List Stop)
    → (KeepsPhase stops (slowest stops)) ⊎ ((slowest stops ≡ 0) × ((other : ℕ) → other < length stops → IsFreeAt stops other))
starts_from stops = elim (slowest_keeps stops) [
  | inl keeps ↦ inl (keeps.phase, keeps.keeps)
  | inr none ↦ inr (none.first, none.none)
]

module _ (system : System) (sound : IsSound system) (timing : Group → GroupTiming) (groups : List Group) (all : All (IsGroupOfTask system) groups) where
  abbrev stops : List Stop
  stops = stops_of system timing groups

  as_many : length stops ≡ length groups
  as_many = length_stops system timing groups []

  paced : ArePaced stops
  paced place h = stop_is_pace system timing sound groups all [] place (omega (arith, h, as_many))

  are_stops : 0 < length groups → AreStops stops (slowest stops)
  are_stops some = record {
    is_place = slowest_within stops (omega (arith, some, as_many));
    stepped = λ place h. paces_step (pace_at stops place) (paced place h);
    some_tick = hyperperiod_is_some stops paced;
    round = hyperperiod_comes_round stops paced;
    start = starts_from stops;
    taken = λ phase is number moment below arrives.
        start_within phase (subst IsPace is (paced (slowest stops) (slowest_within stops (omega (arith, some, as_many))))) (hyperperiod_in stops) number moment
        (record { within = below; arrives = arrives });
  }

  are_stops_of : AreStopsOf system timing groups stops
  are_stops_of = record {
    as_many = as_many;
    lags = stop_lag system timing groups [];
    neighbours = λ run legal place job h below. run_neighbours system sound run legal (group_at groups place).task (all place no_group h).is_task
        (pace_at stops place) (stop_pace system timing groups [] place h) job below;
  }

  -- where what is known of groups is of them, they go no further than it says
  pub are_steps_of : All (λ (group : Group). IsTimingOf system group (timing group)) groups → AreStepsOf timing groups stops
  are_steps_of is = record {
    steps = λ place h. stop_step system timing sound groups all [] place h ∙ sym (is place no_group h).distance;
  }

  pub have_stops : 0 < length groups → HaveStops system timing groups
  have_stops some = record { are = are_stops some; of = are_stops_of }
