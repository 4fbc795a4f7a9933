-- The groups of a chain, put together one after the other. Times are in ticks.
use Rattle.std.proofs.Common.{◌≡◌, ℕ, suc, ◌+◌, ◌-◌, ◌<◌, ◌≤◌, ℤ, pos, ◌-ℤ◌, List, [], ◌∷◌, ◌++◌, map, length, get_or, drop, Option, refl, ap, sym, ◌∙◌, subst, arith, inl, inr, append_assoc, append-nil, length-append, drop-cons}
use Rattle.std.specs.Prelude.{slice_index_or}
use Rattle.std.proofs.lemmas.Bool.{cases_lt}
use Rattle.std.proofs.lemmas.List.{drop_all, map-append, drop-map}
use Rattle.std.proofs.lemmas.List.Elements.{All-nil}
use Rattle.std.proofs.Math.ListN.{get_or-append}
use Rattle.std.proofs.Math.Seq.{get_or-append_seam}
use Rattle.cl_model.specs.{declared.{limits.TheConstants.{MOST_TICKS, MOST_STEPS}, group.Group.Group, stimulus.StimulusKind.StimulusKind}, Groups.{no_group, group_at}, Timing.greatest_distance}
use Rattle.cl_runs.specs.TaskTiming.{System, timing_at}
use Rattle.cl_stim.specs.{declared.phase.Phase.Phase, Integers.IsIntegerWithin, Phase.phase_of}
use Rattle.cl_stim.proofs.Hyperperiods.{HasPeriod, hyperperiod_positive}
use Rattle.cl_hop.specs.{declared.group_timing.GroupTiming.GroupTiming, Bounds.last_of}
use Rattle.cl_phase.specs.{declared.{pace.Pace.Pace, stop.Stop.Stop, keeping.Keeping.Keeping}, Kept.{phase_beside, kept_with, pace_with}, Walks.no_stop, TightBounds.{lag_to_next, stops_beside, stops_of, span_of, last_write}, Inner.{Ranges.{IsPaceInRange, AreStopsInRange}, Keeping.AreKept}}
use Rattle.cl_phase.specs.Inner.{Keeping.{AreKeptIn, IsBeside}, Course.first_lag}
use Rattle.cl_phase.proofs.{SlowestGroups.pace_of, KeptAfter.{phase_in, kept_after, after_more, phase_of_pace, kept_in}}

-- a group on its walks whose numbers are those of a valid model
pub record IsStopInRange (stop : Stop) : Type 0 where
  pub pace : IsPaceInRange stop.pace
  pub lag : IsIntegerWithin MOST_TICKS stop.lag

-- the first groups of a chain are put together, and what is known then
pub record IsCourseTo (system : System) (groups : List Group) (timings : List GroupTiming) (place : ℕ) (stops : List Stop) (keeping : Keeping) : Type 0 where
  pub as_many : length stops ≡ place
  pub in_range : (here : ℕ) → here < place → IsStopInRange (slice_index_or stops here no_stop)
  pub kept : AreKept (kept_after [] (map pace_of stops)) keeping
  pub some : 1 ≤ keeping.hyperperiod
  pub stops_are : (timing : Group → GroupTiming) → timings ≡ map timing groups
      → stops_of system timing groups ≡ stops ++ stops_beside system timing (kept_after [] (map pace_of stops)) (drop place groups)

-- the lag to the next group, by the timings of a group and those after it
lags_same : (timing : Group → GroupTiming) (group : Group) (later : List Group) → first_lag (map timing (group ∷ later)) ≡ lag_to_next timing group later
lags_same timing group [] = refl
lags_same timing group (next ∷ later) = refl

-- a group and those after it
with_rest : (groups : List Group) (place : ℕ) → place < length groups → drop place groups ≡ group_at groups place ∷ drop (place + 1) groups
with_rest groups place within =
    let next : suc place ≡ place + 1 = omega arith in
    drop-cons groups place no_group within ∙ ap (λ n. group_at groups place ∷ drop n groups) next

-- stops with one more
module _ (stops : List Stop) (stop : Stop) where
  older : (here : ℕ) → here < length stops → slice_index_or (stops ++ stop ∷ []) here no_stop ≡ slice_index_or stops here no_stop
  older here before = get_or-append stops (stop ∷ []) no_stop here before

  newest : (here : ℕ) → length stops ≡ here → slice_index_or (stops ++ stop ∷ []) here no_stop ≡ stop
  newest here at = ap (λ n. slice_index_or (stops ++ stop ∷ []) n no_stop) (sym at) ∙ get_or-append_seam stops stop [] no_stop

  in_range_more : (place : ℕ) → length stops ≡ place → ((here : ℕ) → here < place → IsStopInRange (slice_index_or stops here no_stop)) → IsStopInRange stop
      → (here : ℕ) → here < place + 1 → IsStopInRange (slice_index_or (stops ++ stop ∷ []) here no_stop)
  in_range_more place as_many are is here below = elim (cases_lt here place) [
    | inl before ↦ subst IsStopInRange (sym (older here (omega (arith, before, as_many)))) (are here before)
    | inr last ↦ subst IsStopInRange (sym (newest here (omega (arith, last, below, as_many)))) is
  ]

  phases_more : kept_after [] (map pace_of (stops ++ stop ∷ [])) ≡ kept_with (kept_after [] (map pace_of stops)) (phase_in stop.pace)
  phases_more = ap (kept_after []) (map-append pace_of stops (stop ∷ [])) ∙ after_more [] (map pace_of stops) stop.pace

same_stop : (pace : Pace) (d : ℤ) (pace' : Pace) (d' : ℤ) → pace ≡ pace' → d ≡ d'
    → ◌≡◌ {A = Stop} (record { pace = pace; lag = d }) (record { pace = pace'; lag = d' })
same_stop pace d pace' d' e f = cc

-- what is left with one group
beside_more : (system : System) (timing : Group → GroupTiming) (kept : List Phase) (group : Group) (later : List Group) (kind : StimulusKind) (pace : Pace) (d : ℤ)
    → kind ≡ (timing_at system group.task).pattern → pace ≡ pace_with (greatest_distance kind) (phase_beside kept (phase_of kind))
    → d ≡ lag_to_next timing group later
    → stops_beside system timing kept (group ∷ later)
    ≡ (record { pace = pace; lag = d }) ∷ stops_beside system timing (kept_with kept (phase_in pace)) later
unfolding stops_beside
beside_more system timing kept group later kind pace d is pace_is lag_is =
    let pattern = (timing_at system group.task).pattern in
    let made : pace_with (greatest_distance pattern) (phase_beside kept (phase_of pattern)) ≡ pace =
    ap (λ (k : StimulusKind). pace_with (greatest_distance k) (phase_beside kept (phase_of k))) (sym is) ∙ sym pace_is in
    let phase : phase_beside kept (phase_of pattern) ≡ phase_in pace =
    sym (phase_of_pace (greatest_distance pattern) (phase_beside kept (phase_of pattern))) ∙ ap phase_in made in
    ap (λ (s : Stop). s ∷ stops_beside system timing (kept_with kept (phase_beside kept (phase_of pattern))) later)
    (same_stop _ _ _ _ made (sym lag_is))
    ∙ ap (λ (o : Option Phase). (record { pace = pace; lag = d }) ∷ stops_beside system timing (kept_with kept o) later) phase

module _ (system : System) (groups : List Group) (some_groups : 0 < length groups) (timings : List GroupTiming) where
  pub course_begins : (stops : List Stop) (keeping : Keeping) → stops ≡ [] → AreKept [] keeping → IsCourseTo system groups timings 0 stops keeping
  course_begins stops keeping none kept =
      subst (λ (s : List Stop). IsCourseTo system groups timings 0 s keeping) (sym none) (record {
        as_many = refl;
        in_range = λ here below. absurd (omega (arith, below));
        kept = kept;
        some = rw kept.hyperperiod (hyperperiod_positive [] (All-nil HasPeriod));
        stops_are = λ timing is. refl;
      })

  module _ (place : ℕ) (stops : List Stop) (keeping : Keeping) (so_far : IsCourseTo system groups timings place stops keeping) where
    pub course_goes_on : (within : place < length groups) (kind : StimulusKind) (pace : Pace) (more : Keeping) (d : ℤ)
        → kind ≡ (timing_at system (group_at groups place).task).pattern → IsBeside kind (kept_after [] (map pace_of stops)) pace more → 1 ≤ more.hyperperiod
        → d ≡ first_lag (drop place timings) → IsIntegerWithin MOST_TICKS d
        → IsCourseTo system groups timings (place + 1) (stops ++ (record { pace = pace; lag = d }) ∷ []) more
    course_goes_on within kind pace more d is beside some lag_is small =
        let stop : Stop = record { pace = pace; lag = d } in
        let kept = kept_after [] (map pace_of stops) in
        let phase : phase_beside kept (phase_of kind) ≡ phase_in pace =
        sym (phase_of_pace (greatest_distance kind) (phase_beside kept (phase_of kind))) ∙ ap phase_in (sym beside.pace_is) in
        let phases = phases_more stops stop in
        record {
          as_many = length-append stops (stop ∷ []) ∙ omega (arith, so_far.as_many);
          in_range = in_range_more stops stop place so_far.as_many so_far.in_range (record { pace = beside.in_range; lag = small });
          kept = subst (λ (k : List Phase). AreKept k more) (ap (kept_with kept) phase ∙ sym phases) beside.are;
          some = some;
          stops_are = λ timing timings_are.
              let lag : d ≡ lag_to_next timing (group_at groups place) (drop (place + 1) groups) =
              lag_is ∙ ap (λ (list : List GroupTiming). first_lag (drop place list)) timings_are ∙ ap first_lag (drop-map timing place groups)
              ∙ ap (λ (left : List Group). first_lag (map timing left)) (with_rest groups place within)
              ∙ lags_same timing (group_at groups place) (drop (place + 1) groups) in
              so_far.stops_are timing timings_are
              ∙ ap (λ (left : List Group). stops ++ stops_beside system timing kept left) (with_rest groups place within)
              ∙ ap (λ (left : List Stop). stops ++ left)
              (beside_more system timing kept (group_at groups place) (drop (place + 1) groups) kind pace d is beside.pace_is lag)
              ∙ sym (append_assoc stops (stop ∷ []) (stops_beside system timing (kept_with kept (phase_in pace)) (drop (place + 1) groups)))
              ∙ ap (λ (k : List Phase). (stops ++ stop ∷ []) ++ stops_beside system timing k (drop (place + 1) groups)) (sym phases);
        }

    -- all of them
    module _ (few : length groups ≤ MOST_STEPS) (all : place ≡ length groups) where
      pub course_stops : (timing : Group → GroupTiming) → timings ≡ map timing groups → stops ≡ stops_of system timing groups
      unfolding stops_beside
      course_stops timing timings_are = sym (
          so_far.stops_are timing timings_are
          ∙ ap (λ (left : List Group). stops ++ stops_beside system timing (kept_after [] (map pace_of stops)) left)
          (drop_all place groups (omega (arith, all)))
          ∙ append-nil stops)

      pub course_in_range : AreStopsInRange stops
      course_in_range = record {
        some = omega (arith, so_far.as_many, all, some_groups);
        few = omega (arith, so_far.as_many, all, few);
        paces = λ here below. (so_far.in_range here (omega (arith, below, so_far.as_many))).pace;
        lags = λ here below. (so_far.in_range here (omega (arith, below, so_far.as_many))).lag;
      }

      pub course_kept : AreKeptIn stops keeping
      course_kept = kept_in stops keeping so_far.kept

-- ---- the ends, by the list of timings

last_in : (first : GroupTiming) (later : List GroupTiming) (d : GroupTiming) → get_or (first ∷ later) (length later) d ≡ last_of first later
last_in first [] d = refl
last_in first (next ∷ later) d = last_in next later d

pub write_by : (timing : Group → GroupTiming) (groups : List Group) → 0 < length groups → (d : GroupTiming)
    → (get_or (map timing groups) (length (map timing groups) - 1) d).write ≡ last_write timing groups
write_by timing [] some d = absurd (omega (arith, some))
write_by timing (first ∷ later) some d =
    let place : length (map timing (first ∷ later)) - 1 ≡ length (map timing later) = omega arith in
    ap (λ n. (get_or (map timing (first ∷ later)) n d).write) place ∙ ap (λ (t : GroupTiming). t.write) (last_in (timing first) (map timing later) d)

pub span_by : (timing : Group → GroupTiming) (groups : List Group) → 0 < length groups → (d : GroupTiming)
    → (pos (get_or (map timing groups) (length (map timing groups) - 1) d).write -ℤ pos (get_or (map timing groups) 0 d).read) ≡ span_of timing groups
span_by timing [] some d = absurd (omega (arith, some))
span_by timing (first ∷ later) some d = ap (λ n. pos n -ℤ pos (timing first).read) (write_by timing (first ∷ later) some d)
