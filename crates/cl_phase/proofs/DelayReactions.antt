-- The tight delay is at most the tight reaction, where the first group reads before its next job arrives; of a first task
-- that is periodic and timed it is the reaction less the period.
use Rattle.std.proofs.Common.{◌≡◌, ℕ, ℤ, pos, negsuc, zero, suc, ◌+◌, ◌-◌, ◌<◌, ◌≤◌, true, List, [], ◌∷◌, length, get_or, refl, sym, ap, ◌∙◌, arith}
use Rattle.std.specs.Prelude.{◌+ℤ◌, ◌-ℤ◌, ◌≤ℤ◌, All}
use Rattle.std.proofs.lemmas.Int.{ints}
use Rattle.cl_model.specs.{declared.{group.Group.Group, stimulus.StimulusKind.{StimulusKind, TheVariants.Periodic}}, Groups.no_group, Holds.greatest_by, Timing.{least_distance, greatest_distance}}
use Rattle.cl_model.proofs.Greatest.{greatest_least, greatest_within}
use Rattle.cl_runs.specs.{Pattern.IsPattern, TaskTiming.{System, timing_at, IsSound}, Chains.first_group}
use Rattle.cl_hop.specs.{declared.group_timing.GroupTiming.GroupTiming, Timings.{IsGroupOfTask, AlwaysKeeps}}
use Rattle.cl_phase.specs.{declared.stop.Stop.Stop, Pace.{first_from, last_by, previous, next}, Walks.{no_stop, pace_at, lag_at, onward, back, arrival_at_first}, TightBounds.{stops_beside, stops_of, hyperperiod_in, slowest, starts, ticks_or_none, span_of, last_write, length_from}}
use Rattle.cl_phase.specs.{TightBounds.{delay_from, bounds_from, tight_bounds}, EarlyReads.ReadsBeforeNext}
use Rattle.cl_phase.proofs.{Stepped.IsStepped, PatternPaces.{IsPaceOf, pace_step}, RunWalks.span_is, StopFacts.{stop_pace, stops_step}, WiderWalks.greatest_rises, DelaySteps.{next_near, next_far}, DelaySafety.last_write_is, DelayReads.timed_reads_at_once, DelayExists.delay_takes_time}

-- ---- from one arrival

-- the walk back ends with a step to the last arrival by some moment
first_of_walk : (stops : List Stop) (place : ℕ) (arrival : ℤ) → (moment : ℤ) × (arrival_at_first stops place arrival ≡ last_by (pace_at stops 0) moment)
unfolding back
first_of_walk stops zero arrival = (arrival -ℤ pos 1, refl)
first_of_walk stops (suc place) arrival =
    let so_far : ℤ = back stops (suc place) (previous (pace_at stops (suc place)) arrival) place in
    let none : suc place - suc place ≡ 0 = omega arith in
    (so_far -ℤ lag_at stops 0, ap (λ n. last_by (pace_at stops n) (so_far -ℤ lag_at stops n)) none)

module _ (stops : List Stop) (pattern : StimulusKind) (is_pace_of : IsPaceOf pattern (pace_at stops 0)) (well : IsPattern pattern)
    (place : ℕ) (arrival : ℤ) where
  abbrev first : ℤ
  first = arrival_at_first stops place arrival

  next_comes_late : (first +ℤ pos (least_distance pattern)) ≤ℤ next (pace_at stops 0) first
  next_comes_late =
      let (moment, is) = first_of_walk stops place arrival in
      omega (arith, ints, is, ap (next (pace_at stops 0)) is, next_far pattern (pace_at stops 0) is_pace_of well moment)

  next_comes_soon : IsStepped (pace_at stops 0) → next (pace_at stops 0) first ≤ℤ (first +ℤ pos (greatest_distance pattern))
  next_comes_soon stepped = omega (arith, ints, next_near (pace_at stops 0) stepped first, ap pos (pace_step pattern (pace_at stops 0) is_pace_of))

  module _ (span : ℤ) (write read : ℕ) (spans : span ≡ (pos write -ℤ pos read)) where
    delay_within_length : read ≤ least_distance pattern → delay_from stops write place arrival ≤ℤ length_from stops span place arrival
    delay_within_length before_next = omega (arith, ints, spans, before_next, next_comes_late)

    -- where arrivals are as far apart as they may be
    delay_less : IsStepped (pace_at stops 0) → read ≡ 0 → least_distance pattern ≡ greatest_distance pattern
        → length_from stops span place arrival ≡ (delay_from stops write place arrival +ℤ pos (greatest_distance pattern))
    delay_less stepped none same = omega (arith, ints, spans, none, same, next_comes_late, next_comes_soon stepped)

-- ---- the greatest

ticks_less : (one other : ℤ) (less : ℕ) → other ≡ (one +ℤ pos less) → ticks_or_none one ≡ ticks_or_none other - less
ticks_less (pos m) (pos n) less is = omega (arith, ints, is)
ticks_less (pos m) (negsuc n) less is = absurd (omega (arith, ints, is))
ticks_less (negsuc m) (pos n) less is = omega (arith, ints, is)
ticks_less (negsuc m) (negsuc n) less is = omega arith

-- where each number is so much less than another, but for those below 0, so is the greatest
greatest_less : (f g : ℕ → ℕ) (less : ℕ) → ((n : ℕ) → f n ≡ g n - less) → (moments : List ℕ) → greatest_by f moments ≡ greatest_by g moments - less
greatest_less f g less each moments =
    let within : greatest_by f moments ≤ greatest_by g moments - less =
    greatest_within f moments (greatest_by g moments - less) (λ i d h. omega (arith, each (get_or moments i d), greatest_least g moments i d h)) in
    let more : greatest_by g moments ≤ greatest_by f moments + less =
    greatest_within g moments (greatest_by f moments + less) (λ i d h. omega (arith, each (get_or moments i d), greatest_least f moments i d h)) in
    omega (arith, within, more)

-- ---- of groups of a system

-- the span, by the latest write and the earliest read
span_by_write : (timing : Group → GroupTiming) (groups : List Group) → 0 < length groups
    → span_of timing groups ≡ (pos (last_write timing groups) -ℤ pos (timing (first_group groups)).read)
span_by_write timing groups some = omega (arith, ints, span_is timing groups some, ap pos (last_write_is timing groups some))

module _ (system : System) (sound : IsSound system) (timing : Group → GroupTiming) (groups : List Group) (all : All (IsGroupOfTask system) groups)
    (some : 0 < length groups) where
  abbrev stops : List Stop
  stops = stops_of system timing groups

  abbrev pattern : StimulusKind
  pattern = (timing_at system (first_group groups).task).pattern

  paced : IsPaceOf pattern (pace_at stops 0)
  paced = stop_pace system timing groups [] 0 some

  well : IsPattern pattern
  well = (sound.tasks (first_group groups).task (all 0 no_group some).is_task).pattern

  some_delay_within : ReadsBeforeNext system (first_group groups) (timing (first_group groups))
      → (tight_bounds system timing groups).delay ≤ (tight_bounds system timing groups).reaction
  unfolding tight_bounds bounds_from
  some_delay_within before_next =
      greatest_rises (delay_from stops (last_write timing groups) (slowest stops)) (length_from stops (span_of timing groups) (slowest stops))
      (λ arrival. delay_within_length stops pattern paced well (slowest stops) arrival (span_of timing groups) (last_write timing groups)
      (timing (first_group groups)).read (span_by_write timing groups some) before_next)
      (starts (pace_at stops (slowest stops)) (hyperperiod_in stops))

  delay_less_than_reaction : (timing (first_group groups)).read ≡ 0 → least_distance pattern ≡ greatest_distance pattern
      → (tight_bounds system timing groups).delay ≡ (tight_bounds system timing groups).reaction - greatest_distance pattern
  unfolding tight_bounds bounds_from
  delay_less_than_reaction none same =
      greatest_less (λ moment. ticks_or_none (delay_from stops (last_write timing groups) (slowest stops) (pos moment)))
      (λ moment. ticks_or_none (length_from stops (span_of timing groups) (slowest stops) (pos moment))) (greatest_distance pattern)
      (λ moment. ticks_less _ _ (greatest_distance pattern)
      (delay_less stops pattern paced well (slowest stops) (pos moment) (span_of timing groups) (last_write timing groups)
      (timing (first_group groups)).read (span_by_write timing groups some) (stops_step system timing sound groups all [] 0 some) none same))
      (starts (pace_at stops (slowest stops)) (hyperperiod_in stops))

-- of no groups both are 0
none_within : (system : System) (timing : Group → GroupTiming) → (tight_bounds system timing []).delay ≤ (tight_bounds system timing []).reaction
unfolding tight_bounds bounds_from stops_beside slowest onward back first_from last_by no_stop
none_within system timing = omega (arith, ints)

-- no delay is greater than the reaction
pub delay_within_reaction : (system : System) → IsSound system → (timing : Group → GroupTiming) (groups : List Group) → All (IsGroupOfTask system) groups
    → ReadsBeforeNext system (first_group groups) (timing (first_group groups))
    → (tight_bounds system timing groups).delay ≤ (tight_bounds system timing groups).reaction
delay_within_reaction system sound timing [] all before_next = none_within system timing
delay_within_reaction system sound timing (first ∷ later) all before_next =
    some_delay_within system sound timing (first ∷ later) all (omega arith) before_next

-- of a first task that is periodic and timed, it is the reaction less the period
pub timed_delay : (system : System) → IsSound system → (timing : Group → GroupTiming) (groups : List Group) → 0 < length groups
    → All (λ (group : Group). AlwaysKeeps system group (timing group)) groups
    → (timing (first_group groups)).is_timed ≡ true → (period offset jitter : ℕ)
    → (timing_at system (first_group groups).task).pattern ≡ Periodic period offset jitter
    → (tight_bounds system timing groups).delay + period ≡ (tight_bounds system timing groups).reaction
timed_delay system sound timing groups some keep timed period offset jitter periodic =
    let least : least_distance (timing_at system (first_group groups).task).pattern ≡ period = ap least_distance periodic in
    let greatest : greatest_distance (timing_at system (first_group groups).task).pattern ≡ period = ap greatest_distance periodic in
    let less = delay_less_than_reaction system sound timing groups (λ place d h. (keep place d h).is_group) some
    (timed_reads_at_once system sound (first_group groups) (timing (first_group groups)) (keep 0 no_group some) timed) (least ∙ sym greatest) in
    omega (arith, less, greatest, delay_takes_time system sound timing groups some keep)
