-- Over windows that lie within others, tight bounds are no greater: the paces are the same and no lag is greater, so no
-- walk goes further.
use Rattle.std.proofs.Common.{◌≡◌, ℕ, ℤ, pos, negsuc, zero, suc, ◌+◌, ◌-◌, ◌<◌, ◌≤◌, Bool, cond, List, [], ◌∷◌, length, get_or, map, find, unwrap_or, Option, Some, refl, sym, ap, ◌∙◌, subst, arith}
use Rattle.std.specs.Prelude.{◌+ℤ◌, ◌-ℤ◌, ◌≤ℤ◌, All}
use Rattle.std.specs.List.{list_all, range_with_len}
use Rattle.std.proofs.lemmas.Int.{ints}
use Rattle.std.proofs.lemmas.List.Elements.{All-head, All-tail}
use Rattle.std.proofs.lemmas.List.{length-map}
use Rattle.cl_model.specs.{declared.group.Group.Group, Holds.greatest_by, Timing.greatest_distance}
use Rattle.cl_model.proofs.Greatest.{greatest_least, greatest_within}
use Rattle.cl_runs.specs.TaskTiming.{System, timing_at, IsSound}
use Rattle.cl_stim.specs.{declared.phase.Phase.Phase, Phase.phase_of, Multiples.hyperperiod_of}
use Rattle.cl_hop.specs.{declared.group_timing.GroupTiming.GroupTiming, NoGreater.{StaysWithin, AreNoGreater}, Timings.IsGroupOfTask}
use Rattle.cl_hop.proofs.NoGreater.{lag_no_greater, last_stays}
use Rattle.cl_phase.specs.{declared.{pace.Pace.{Pace, TheVariants.{Kept, Free}}, stop.Stop.Stop}, Pace.{first_from, last_by, previous, next}, Kept.{phase_beside, kept_with, pace_with, phases_in}, Walks.{pace_at, lag_at, onward, back, last_place, arrival_at_last, arrival_at_first}}
use Rattle.cl_phase.specs.TightBounds.{lag_to_next, stops_beside, stops_of, hyperperiod_in, has_no_fewer, is_slowest, slowest, starts, ticks_or_none, length_from, reduced_from, delay_from, bounds_from, span_of, last_write, tight_bounds}
use Rattle.cl_phase.proofs.{Stepped.IsStepped, WalksBothWays.{first_rises, last_rises}, SlowestGroups.{pace_of, along}, SlowestFacts.slowest_within, StopFacts.{length_stops, stops_step}, DelaySteps.next_rises}

-- stops go at the paces of others, and no lag of theirs is greater
pub record AreCloser (stops others : List Stop) : Type 0 where
  pub paces : map pace_of stops ≡ map pace_of others
  pub pace : (place : ℕ) → pace_at stops place ≡ pace_at others place
  pub lag : (place : ℕ) → lag_at stops place ≤ℤ lag_at others place

-- ---- the same starts

find_same : (f g : ℕ → Bool) → ((x : ℕ) → f x ≡ g x) → (xs : List ℕ) → find f xs ≡ find g xs
find_same f g same [] = refl
find_same f g same (x ∷ xs) =
    ap (λ b. cond b (Some x) (find f xs)) (same x) ∙ ap (λ (o : Option ℕ). cond (g x) (Some x) o) (find_same f g same xs)

slowest_same : (stops others : List Stop) → map pace_of stops ≡ map pace_of others → (ticks : ℕ) (pace : Pace)
    → is_slowest stops ticks pace ≡ is_slowest others ticks pace
slowest_same stops others paces ticks (Kept phase) =
    along (has_no_fewer ticks phase) stops ∙ ap (list_all (has_no_fewer ticks phase)) paces ∙ sym (along (has_no_fewer ticks phase) others)
slowest_same stops others paces ticks (Free greatest) = refl

module _ (stops others : List Stop) (are : AreCloser stops others) where
  same_length : length stops ≡ length others
  same_length = sym (length-map stops pace_of) ∙ ap length are.paces ∙ length-map others pace_of

  same_hyperperiod : hyperperiod_in stops ≡ hyperperiod_in others
  same_hyperperiod = ap (λ (paces : List Pace). hyperperiod_of (phases_in paces)) are.paces

  same_slowest : slowest stops ≡ slowest others
  unfolding slowest
  same_slowest =
      ap (λ (o : Option ℕ). unwrap_or o 0)
      (find_same (λ place. is_slowest stops (hyperperiod_in stops) (pace_at stops place)) (λ place. is_slowest others (hyperperiod_in others) (pace_at others place))
      (λ place.
      slowest_same stops others are.paces (hyperperiod_in stops) (pace_at stops place)
      ∙ ap (λ ticks. is_slowest others ticks (pace_at stops place)) same_hyperperiod
      ∙ ap (is_slowest others (hyperperiod_in others)) (are.pace place))
      (range_with_len 0 (length stops)))
      ∙ ap (λ n. unwrap_or (find (λ place. is_slowest others (hyperperiod_in others) (pace_at others place)) (range_with_len 0 n)) 0) same_length

  -- ---- walks go no further

  module _ (stepped : (place : ℕ) → place < length stops → IsStepped (pace_at stops place)) (place : ℕ) where
    onward_sooner : (arrival : ℤ) (hops : ℕ) → place + hops < length stops → onward stops place arrival hops ≤ℤ onward others place arrival hops
    unfolding onward
    onward_sooner arrival zero h = omega (arith, ints)
    onward_sooner arrival (suc hops) h =
        let so_far = onward_sooner arrival hops (omega (arith, h)) in
        let rises = first_rises (pace_at stops (place + suc hops)) (stepped (place + suc hops) h)
        (onward stops place arrival hops +ℤ lag_at stops (place + hops)) (onward others place arrival hops +ℤ lag_at others (place + hops))
        (omega (arith, ints, so_far, are.lag (place + hops))) in
        omega (
          arith,
          ints,
          rises,
          ap (λ pace. first_from pace (onward others place arrival hops +ℤ lag_at others (place + hops))) (are.pace (place + suc hops)),
        )

    back_later : (one other : ℤ) → other ≤ℤ one → place < length stops → (hops : ℕ) → back others place other hops ≤ℤ back stops place one hops
    unfolding back
    back_later one other le h zero = le
    back_later one other le h (suc hops) =
        let so_far = back_later one other le h hops in
        let rises = last_rises (pace_at stops (place - suc hops)) (stepped (place - suc hops) (omega (arith, h)))
        (back others place other hops -ℤ lag_at others (place - suc hops)) (back stops place one hops -ℤ lag_at stops (place - suc hops))
        (omega (arith, ints, so_far, are.lag (place - suc hops))) in
        omega (
          arith,
          ints,
          rises,
          ap (λ pace. last_by pace (back others place other hops -ℤ lag_at others (place - suc hops))) (are.pace (place - suc hops)),
        )

    module _ (is : place < length stops) (arrival : ℤ) where
      last_sooner : arrival_at_last stops place arrival ≤ℤ arrival_at_last others place arrival
      last_sooner =
          let hops : last_place stops - place ≡ last_place others - place = omega (arith, same_length) in
          let le = onward_sooner arrival (last_place stops - place) (omega (arith, is)) in
          omega (arith, ints, le, ap (onward others place arrival) hops)

      first_later : arrival_at_first others place arrival ≤ℤ arrival_at_first stops place arrival
      first_later =
          let before : previous (pace_at stops place) arrival ≡ previous (pace_at others place) arrival = ap (λ pace. previous pace arrival) (are.pace place) in
          back_later (previous (pace_at stops place) arrival) (previous (pace_at others place) arrival) (omega (arith, ints, before)) is place

      previous_sooner : previous (pace_at stops (last_place stops)) (arrival_at_last stops place arrival)
          ≤ℤ previous (pace_at others (last_place others)) (arrival_at_last others place arrival)
      previous_sooner =
          let last : last_place stops ≡ last_place others = omega (arith, same_length) in
          let rises = last_rises (pace_at stops (last_place stops)) (stepped (last_place stops) (omega (arith, is)))
          (arrival_at_last stops place arrival -ℤ pos 1) (arrival_at_last others place arrival -ℤ pos 1) (omega (arith, ints, last_sooner)) in
          omega (
            arith,
            ints,
            rises,
            ap (λ pace. previous pace (arrival_at_last others place arrival)) (are.pace (last_place stops)),
            ap (λ n. previous (pace_at others n) (arrival_at_last others place arrival)) last,
          )

      next_no_sooner : next (pace_at others 0) (arrival_at_first others place arrival) ≤ℤ next (pace_at stops 0) (arrival_at_first stops place arrival)
      next_no_sooner =
          let rises = next_rises (pace_at stops 0) (stepped 0 (omega (arith, is)))
          (arrival_at_first others place arrival) (arrival_at_first stops place arrival) first_later in
          omega (arith, ints, rises, ap (λ pace. next pace (arrival_at_first others place arrival)) (are.pace 0))

      delay_no_longer : (write later : ℕ) → write ≤ later → delay_from stops write place arrival ≤ℤ delay_from others later place arrival
      delay_no_longer write later writes = omega (arith, ints, last_sooner, next_no_sooner, writes)

      module _ (span wider : ℤ) (spans : span ≤ℤ wider) where
        length_no_longer : length_from stops span place arrival ≤ℤ length_from others wider place arrival
        length_no_longer = omega (arith, ints, last_sooner, first_later, spans)

        reduced_no_longer : reduced_from stops span place arrival ≤ℤ reduced_from others wider place arrival
        reduced_no_longer = omega (arith, ints, previous_sooner, first_later, spans)

-- ---- the greatest

pub ticks_rise : (less more : ℤ) → less ≤ℤ more → ticks_or_none less ≤ ticks_or_none more
ticks_rise (pos m) (pos n) le = omega (arith, ints, le)
ticks_rise (pos m) (negsuc n) le = absurd (omega (arith, ints, le))
ticks_rise (negsuc m) more le = omega arith

-- where no length is greater than another, neither is the greatest of some arrivals
pub greatest_rises : (f g : ℤ → ℤ) → ((arrival : ℤ) → f arrival ≤ℤ g arrival) → (moments : List ℕ)
    → greatest_by (λ moment. ticks_or_none (f (pos moment))) moments ≤ greatest_by (λ moment. ticks_or_none (g (pos moment))) moments
greatest_rises f g each moments =
    greatest_within (λ moment. ticks_or_none (f (pos moment))) moments (greatest_by (λ moment. ticks_or_none (g (pos moment))) moments) (λ i d h.
    omega (
      arith,
      ticks_rise (f (pos (get_or moments i d))) (g (pos (get_or moments i d))) (each (pos (get_or moments i d))),
      greatest_least (λ moment. ticks_or_none (g (pos moment))) moments i d h,
    ))

module _ (stops others : List Stop) (are : AreCloser stops others) (stepped : (place : ℕ) → place < length stops → IsStepped (pace_at stops place))
    (span wider : ℤ) (spans : span ≤ℤ wider) (write later : ℕ) (writes : write ≤ later) where
  -- by the walks from one place
  from_place : (place : ℕ) → place < length stops → AreNoGreater (bounds_from stops span write place) (bounds_from others wider later place)
  unfolding bounds_from
  from_place place is =
      let from = starts (pace_at stops place) (hyperperiod_in stops) in
      let same : from ≡ starts (pace_at others place) (hyperperiod_in others) =
      ap (λ ticks. starts (pace_at stops place) ticks) (same_hyperperiod stops others are)
      ∙ ap (λ pace. starts pace (hyperperiod_in others)) (are.pace place) in
      let whole = greatest_rises (length_from stops span place) (length_from others wider place)
      (λ arrival. length_no_longer stops others are stepped place is arrival span wider spans) from in
      let reduced = greatest_rises (reduced_from stops span place) (reduced_from others wider place)
      (λ arrival. reduced_no_longer stops others are stepped place is arrival span wider spans) from in
      let delay = greatest_rises (delay_from stops write place) (delay_from others later place)
      (λ arrival. delay_no_longer stops others are stepped place is arrival write later writes) from in
      record {
        reaction = subst (λ moments. greatest_by (λ moment. ticks_or_none (length_from stops span place (pos moment))) from
            ≤ greatest_by (λ moment. ticks_or_none (length_from others wider place (pos moment))) moments) same whole;
        age = subst (λ moments. greatest_by (λ moment. ticks_or_none (length_from stops span place (pos moment))) from
            ≤ greatest_by (λ moment. ticks_or_none (length_from others wider place (pos moment))) moments) same whole;
        reduced = subst (λ moments. greatest_by (λ moment. ticks_or_none (reduced_from stops span place (pos moment))) from
            ≤ greatest_by (λ moment. ticks_or_none (reduced_from others wider place (pos moment))) moments) same reduced;
        delay = subst (λ moments. greatest_by (λ moment. ticks_or_none (delay_from stops write place (pos moment))) from
            ≤ greatest_by (λ moment. ticks_or_none (delay_from others later place (pos moment))) moments) same delay;
      }

  -- by those from the slowest
  pub closer_no_greater : slowest stops < length stops → AreNoGreater (bounds_from stops span write (slowest stops)) (bounds_from others wider later (slowest others))
  closer_no_greater is = subst (λ place. AreNoGreater (bounds_from stops span write (slowest stops)) (bounds_from others wider later place))
      (same_slowest stops others are) (from_place (slowest stops) is)

-- ---- of groups

module _ (system : System) (timing other : Group → GroupTiming) where
  abbrev StaysThere : Group → Type 0
  StaysThere group = StaysWithin (timing group) (other group)

  same_paces : (groups : List Group) (kept : List Phase) → map pace_of (stops_beside system timing kept groups) ≡ map pace_of (stops_beside system other kept groups)
  unfolding stops_beside
  same_paces [] kept = refl
  same_paces (group ∷ later) kept =
      let kind = (timing_at system group.task).pattern in
      let phase = phase_beside kept (phase_of kind) in
      ap (λ (paces : List Pace). pace_with (greatest_distance kind) phase ∷ paces) (same_paces later (kept_with kept phase))

  same_pace : (groups : List Group) (kept : List Phase) (place : ℕ)
      → pace_at (stops_beside system timing kept groups) place ≡ pace_at (stops_beside system other kept groups) place
  unfolding stops_beside
  same_pace [] kept place = refl
  same_pace (group ∷ later) kept zero = refl
  same_pace (group ∷ later) kept (suc place) = same_pace later (kept_with kept (phase_beside kept (phase_of (timing_at system group.task).pattern))) place

  lag_no_later : (group : Group) (later : List Group) → StaysThere group → All StaysThere later → lag_to_next timing group later ≤ℤ lag_to_next other group later
  lag_no_later group [] stays all = omega (arith, ints)
  lag_no_later group (next ∷ later) stays all =
      lag_no_greater (timing group) (timing next) (other group) (other next) stays (All-head StaysThere next later all)

  lags_no_greater : (groups : List Group) (kept : List Phase) → All StaysThere groups → (place : ℕ)
      → lag_at (stops_beside system timing kept groups) place ≤ℤ lag_at (stops_beside system other kept groups) place
  unfolding stops_beside
  lags_no_greater [] kept all place = omega (arith, ints)
  lags_no_greater (group ∷ later) kept all zero =
      lag_no_later group later (All-head StaysThere group later all) (All-tail StaysThere group later all)
  lags_no_greater (group ∷ later) kept all (suc place) =
      lags_no_greater later (kept_with kept (phase_beside kept (phase_of (timing_at system group.task).pattern))) (All-tail StaysThere group later all) place

  are_closer : (groups : List Group) → All StaysThere groups → AreCloser (stops_of system timing groups) (stops_of system other groups)
  are_closer groups all = record {
    paces = same_paces groups [];
    pace = same_pace groups [];
    lag = lags_no_greater groups [] all;
  }

  span_no_wider : (groups : List Group) → All StaysThere groups → span_of timing groups ≤ℤ span_of other groups
  span_no_wider [] all = omega (arith, ints)
  span_no_wider (first ∷ later) all =
      let is = All-head StaysThere first later all in
      let last = last_stays timing other first later is (All-tail StaysThere first later all) in
      omega (arith, ints, is.read, last.write)

  write_no_later : (groups : List Group) → All StaysThere groups → last_write timing groups ≤ last_write other groups
  write_no_later [] all = omega arith
  write_no_later (first ∷ later) all =
      (last_stays timing other first later (All-head StaysThere first later all) (All-tail StaysThere first later all)).write

-- over timings that stay within others, no tight bound is greater
pub tight_within_wider : (system : System) → IsSound system → (timing other : Group → GroupTiming) (groups : List Group) → All (IsGroupOfTask system) groups
    → All (λ (group : Group). StaysWithin (timing group) (other group)) groups
    → AreNoGreater (tight_bounds system timing groups) (tight_bounds system other groups)
unfolding tight_bounds stops_beside
tight_within_wider system sound timing other [] of_tasks all =
    record { reaction = omega arith; age = omega arith; reduced = omega arith; delay = omega arith }
tight_within_wider system sound timing other (first ∷ later) of_tasks all =
    let groups = first ∷ later in
    let stops = stops_of system timing groups in
    let as_many : length stops ≡ length groups = length_stops system timing groups [] in
    closer_no_greater stops (stops_of system other groups) (are_closer system timing other groups all)
    (λ place h. stops_step system timing sound groups of_tasks [] place (omega (arith, h, as_many)))
    (span_of timing groups) (span_of other groups) (span_no_wider system timing other groups all)
    (last_write timing groups) (last_write other groups) (write_no_later system timing other groups all)
    (slowest_within stops (omega (arith, as_many)))
