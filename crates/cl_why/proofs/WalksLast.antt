-- The whole walk of a chain that is found for a bound lasts as long as the bound. Times are in ticks.
use Rattle.std.proofs.Common.{◌≡◌, ℕ, ◌-◌, ◌*◌, ◌<◌, Bool, if◌then◌else◌, ℤ, pos, ◌+ℤ◌, ◌-ℤ◌, inl, inr, List, [], ◌∷◌, length, refl, sym, ap, ◌∙◌, subst, slice_index_or, arith}
use Rattle.std.proofs.lemmas.Bool.{cases_lt, eq-eqb}
use Rattle.std.proofs.lemmas.Int.{ints}
use Rattle.std.proofs.lemmas.List.FromFn.{length-map-range_with_len, get_or-map-range_with_len}
use Rattle.cl_model.specs.{declared.{chain.{LengthKind.TheVariants.{Reaction, Age, Reduced}, RequirementKind.{RequirementKind, TheVariants.{Length, Delay}}}, group.Group.Group}, Groups.group_at}
use Rattle.cl_hop.specs.declared.group_timing.GroupTiming.{GroupTiming}
use Rattle.cl_hop.proofs.AlongChains.{last_timing}
use Rattle.cl_phase.specs.{declared.{pace.Pace.Pace, stop.Stop.Stop, whole.WholeWalk.WholeWalk}, Pace.{IsPace, previous, next}, Walks.{pace_at, last_place, onward, back, arrival_at_first, arrival_at_last}, TightBounds.{span_of, last_write, slowest, hyperperiod_in}, Walked.walk_start}
use Rattle.cl_phase.specs.Whole.{missed_at, taken_at, counted_at, IsMovedWalk}
use Rattle.cl_phase.proofs.{DelaySteps.{next_past, next_of_previous}, LongestStarts.LastsFromStart, PaceSteps.paces_step, WalkStarts.IsArrivalAt, WholeWalks.{missed_back, taken_onward, taken_before}}
use Rattle.cl_why.specs.{Hops.{missed_arrival as listed_missed, taken_arrival as listed_taken}, Walks.{walk_from, walk_to}}

-- the arrival after the one before an arrival is that arrival
next_is : (pace : Pace) → IsPace pace → (arrival : ℤ) → IsArrivalAt pace arrival → next pace (previous pace arrival) ≡ arrival
next_is pace is arrival arrives =
    omega (arith, ints, next_of_previous pace is (paces_step pace is) arrival arrives, next_past pace (paces_step pace is) (arrival -ℤ pos 1))

-- ---- what a walk lists

module _ (stops : List Stop) (kind : RequirementKind) (start : ℤ) (walk : WholeWalk) (moved : IsMovedWalk stops kind start walk) where
  abbrev pub ticks : ℤ
  ticks = pos (moved.turns * hyperperiod_in stops)

  pub misses_at : (place : ℕ) → place < length stops → listed_missed walk place ≡ (missed_at stops (slowest stops) start place +ℤ ticks)
  misses_at place within =
      ap (λ list. slice_index_or list place (pos 0)) moved.missed
      ∙ get_or-map-range_with_len (λ group. missed_at stops (slowest stops) start group +ℤ ticks) 0 (length stops) place place (pos 0) within (omega arith)

  pub takes_at : (place : ℕ) → place < length stops → listed_taken walk place ≡ (counted_at kind stops (slowest stops) start place +ℤ ticks)
  takes_at place within =
      ap (λ list. slice_index_or list place (pos 0)) moved.taken
      ∙ get_or-map-range_with_len (λ group. counted_at kind stops (slowest stops) start group +ℤ ticks) 0 (length stops) place place (pos 0)
      within (omega arith)

  -- the last of those that take
  pub takes_last : 0 < length stops → listed_taken walk (length walk.taken - 1) ≡ (counted_at kind stops (slowest stops) start (last_place stops) +ℤ ticks)
  takes_last some =
      let many : length walk.taken ≡ length stops
      = ap length moved.taken
      ∙ length-map-range_with_len (λ group. counted_at kind stops (slowest stops) start group +ℤ ticks) 0 (length stops) in
      ap (λ count. listed_taken walk (count - 1)) many ∙ takes_at (last_place stops) (omega (arith, some))

-- ---- from the first to the last

module _ (stops : List Stop) (some : 0 < length stops) (is_pace : (place : ℕ) → place < length stops → IsPace (pace_at stops place))
    (within : slowest stops < length stops) (span : ℤ) (read write bound : ℕ) (walk : WholeWalk) (is_span : span ≡ (pos write -ℤ pos read)) where
  abbrev place : ℕ
  place = slowest stops

  module _ (start : ℤ) where
    misses_first : missed_at stops place start 0 ≡ arrival_at_first stops place start
    misses_first =
        let whole : place - 0 ≡ place = omega arith in
        missed_back stops place start 0 (omega arith) ∙ ap (back stops place (previous (pace_at stops place) start)) whole

    takes_end : taken_at stops place start (last_place stops) ≡ arrival_at_last stops place start
    takes_end = taken_onward stops place start (last_place stops) (omega (arith, within))

    -- or, one job before it
    takes_one_before : counted_at (Length Reduced) stops place start (last_place stops)
        ≡ previous (pace_at stops (last_place stops)) (arrival_at_last stops place start)
    takes_one_before =
        ap (λ (b : Bool). if b then previous (pace_at stops (last_place stops)) (taken_at stops place start (last_place stops))
        else taken_at stops place start (last_place stops)) (eq-eqb (last_place stops) (last_place stops) refl)
        ∙ ap (previous (pace_at stops (last_place stops))) takes_end

    -- the first that takes is the one after the first that just misses
    begin_at_start : place ≡ 0 → IsArrivalAt (pace_at stops place) start
        → taken_at stops place start 0 ≡ next (pace_at stops 0) (arrival_at_first stops place start)
    unfolding onward back
    begin_at_start first arrives =
        let none : 0 - place ≡ 0 = omega arith in
        taken_onward stops place start 0 (omega (arith, first)) ∙ ap (onward stops place start) none
        ∙ sym (ap (λ p. next (pace_at stops 0) (arrival_at_first stops p start)) first
        ∙ next_is (pace_at stops 0) (is_pace 0 some) start (subst (λ p. IsArrivalAt (pace_at stops p) start) first arrives))

    begin_before : 0 < place → taken_at stops place start 0 ≡ next (pace_at stops 0) (arrival_at_first stops place start)
    begin_before before =
        let whole : place - 0 ≡ place = omega arith in
        taken_before stops place start 0 before ∙ ap (λ n. next (pace_at stops 0) (back stops place (previous (pace_at stops place) start) n)) whole

    takes_begin : IsArrivalAt (pace_at stops place) start → taken_at stops place start 0 ≡ next (pace_at stops 0) (arrival_at_first stops place start)
    takes_begin arrives = elim (cases_lt 0 place) [
      | inl before ↦ begin_before before
      | inr not ↦ begin_at_start (omega (arith, not)) arrives
    ]

  -- moved, a walk lasts as long
  by_length : (first last moved from to : ℤ) → ((last -ℤ first) +ℤ span) ≡ pos bound → from ≡ (first +ℤ moved) → to ≡ (last +ℤ moved)
      → (to +ℤ pos write) ≡ ((from +ℤ pos read) +ℤ pos bound)
  by_length first last moved from to long from_is to_is = omega (arith, ints, long, from_is, to_is, is_span)

  by_delay : (first last moved from to : ℤ) → ((last -ℤ first) +ℤ pos write) ≡ pos bound → from ≡ (first +ℤ moved) → to ≡ (last +ℤ moved)
      → (to +ℤ pos write) ≡ (from +ℤ pos bound)
  by_delay first last moved from to long from_is to_is = omega (arith, ints, long, from_is, to_is)

  abbrev begin : RequirementKind → ℤ
  begin kind = pos (walk_start kind stops span write place bound)

  module _ (kind : RequirementKind) (moved : IsMovedWalk stops kind (begin kind) walk) where
    abbrev more : ℤ
    more = ticks stops kind (begin kind) walk moved

    misses : listed_missed walk 0 ≡ (arrival_at_first stops place (begin kind) +ℤ more)
    misses = misses_at stops kind (begin kind) walk moved 0 some ∙ ap (λ z. z +ℤ more) (misses_first (begin kind))

    begins : (first : ℤ) → counted_at kind stops place (begin kind) 0 ≡ first → listed_taken walk 0 ≡ (first +ℤ more)
    begins first is = takes_at stops kind (begin kind) walk moved 0 some ∙ ap (λ z. z +ℤ more) is

    ends : (last : ℤ) → counted_at kind stops place (begin kind) (last_place stops) ≡ last → listed_taken walk (length walk.taken - 1) ≡ (last +ℤ more)
    ends last is = takes_last stops kind (begin kind) walk moved some ∙ ap (λ z. z +ℤ more) is

  -- a walk from the first start from which walks last so long does so
  pub lasts : (kind : RequirementKind) → LastsFromStart kind stops span write place bound
      → IsMovedWalk stops kind (pos (walk_start kind stops span write place bound)) walk
      → walk_to walk write ≡ (walk_from walk kind read +ℤ pos bound)
  lasts (Length Reaction) found moved =
      by_length (arrival_at_first stops place (begin (Length Reaction))) (arrival_at_last stops place (begin (Length Reaction))) (more (Length Reaction) moved)
      (listed_missed walk 0) (listed_taken walk (length walk.taken - 1)) found.lasts
      (misses (Length Reaction) moved)
      (ends (Length Reaction) moved (arrival_at_last stops place (begin (Length Reaction))) (takes_end (begin (Length Reaction))))
  lasts (Length Age) found moved =
      by_length (arrival_at_first stops place (begin (Length Age))) (arrival_at_last stops place (begin (Length Age))) (more (Length Age) moved)
      (listed_missed walk 0) (listed_taken walk (length walk.taken - 1)) found.lasts
      (misses (Length Age) moved)
      (ends (Length Age) moved (arrival_at_last stops place (begin (Length Age))) (takes_end (begin (Length Age))))
  lasts (Length Reduced) found moved =
      let last = previous (pace_at stops (last_place stops)) (arrival_at_last stops place (begin (Length Reduced))) in
      by_length (arrival_at_first stops place (begin (Length Reduced))) last (more (Length Reduced) moved)
      (listed_missed walk 0) (listed_taken walk (length walk.taken - 1)) found.lasts
      (misses (Length Reduced) moved) (ends (Length Reduced) moved last (takes_one_before (begin (Length Reduced))))
  lasts Delay found moved =
      let first = next (pace_at stops 0) (arrival_at_first stops place (begin Delay)) in
      by_delay first (arrival_at_last stops place (begin Delay)) (more Delay moved)
      (listed_taken walk 0) (listed_taken walk (length walk.taken - 1)) found.lasts
      (begins Delay moved first (takes_begin (begin Delay) found.arrives))
      (ends Delay moved (arrival_at_last stops place (begin Delay)) (takes_end (begin Delay)))

-- ---- of groups

module _ (timing : Group → GroupTiming) where
  -- the last group is the one of the last place
  pub last_write_is : (groups : List Group) → 0 < length groups → last_write timing groups ≡ (timing (group_at groups (length groups - 1))).write
  last_write_is [] some = absurd (omega (arith, some))
  last_write_is (first ∷ later) some =
      let last : length (first ∷ later) - 1 ≡ length later = omega arith in
      ap (λ (group : GroupTiming). group.write) (last_timing timing first later ∙ sym (ap (λ n. timing (group_at (first ∷ later) n)) last))

  pub span_is : (groups : List Group) → 0 < length groups → span_of timing groups ≡ (pos (last_write timing groups) -ℤ pos (timing (group_at groups 0)).read)
  span_is [] some = absurd (omega (arith, some))
  span_is (first ∷ later) some = refl
