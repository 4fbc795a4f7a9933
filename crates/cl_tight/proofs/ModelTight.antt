-- The tight bounds of timed periodic groups of a valid model, whose hyperperiod is within the limit, are their exact
-- lengths.
use Rattle.std.proofs.Common.{◌≡◌, ℕ, suc, ◌-◌, ◌*◌, ◌<◌, ◌≤◌, true, min, List, [], ◌∷◌, length, refl, sym, ap, subst, ◌∙◌, arith}
use Rattle.std.specs.Prelude.{pos, All}
use Rattle.std.specs.Int.{◌∣◌}
use Rattle.std.proofs.lemmas.Bool.{and_parts}
use Rattle.std.proofs.lemmas.Int.{ints}
use Rattle.std.proofs.Math.Nat.{dvd-mul_left_of_dvd, dvd-mul_right, mul-pos, pos_of_dvd_of_pos}
use Rattle.std.proofs.lemmas.List.{get_or_default}
use Rattle.std.proofs.lemmas.List.Elements.{All-head, All-tail, All-cons, All-nil, All-weaker}
use Rattle.cl_model.specs.{declared.{group.Group.Group, limits.TheConstants.MOST_STEPS, model.SystemModel.SystemModel, stimulus.StimulusKind.{StimulusKind, TheVariants.{Periodic, Sporadic, Burst}}}, Groups.{IsGroupOf, group_at, groups_at, no_group}, Kinds.{is_timed, is_periodic}}
use Rattle.cl_model.specs.{Timing.{least_distance, greatest_jitter}, Validity.IsValid}
use Rattle.cl_runs.specs.{Pattern.first_least, TaskTiming.{System, IsSound, timing_at}, SystemOf.system_of, Chains.last_group}
use Rattle.cl_runs.proofs.ModelSystem.{system_sound}
use Rattle.cl_hop.specs.{declared.group_timing.GroupTiming.GroupTiming, Timings.IsGroupOfTask}
use Rattle.cl_hop.proofs.{AlongChains.last_timing, ModelGroups.group_of_system}
use Rattle.cl_exact.specs.{declared.limit.TheConstants.MOST_FIRST_JOBS, TimedPeriodic.{are_timed_periodic, is_timed_periodic_chain}, Hyperperiod.{period_of, IsHyperperiod, IsWithinLimit}, ExactLengths.{Witnesses, AreExactLengths}, Ties.AreTied}
use Rattle.cl_exact.proofs.{ModelBeats.{AreTimedGroups, timed_chain, task_passes}, ModelExact.groups_are_tied}
use Rattle.cl_phase.specs.{declared.{pace.{TheConstants.MOST_ARRIVALS, Pace.TheVariants.Kept}, stop.Stop.Stop}, Walks.pace_at, TightBounds.{stops_of, span_of, last_write, tight_bounds}}
use Rattle.cl_phase.proofs.{KeptWalks.{over_all, phases_agree}, StopFacts.{length_stops, stop_lag, stops_step}}
use Rattle.cl_tight.specs.{TightTimings.tight_timing, ExactBounds.{AreLengthsOf, IsTimedTiming}}
use Rattle.cl_tight.proofs.{IdealSteps.{ideal_phase, IsIdealLag}, IdealStops.{IsTurning, paces, timed_lag, all_keep_phase}, IdealWalks.AreIdealStops, TimedTimings.timed_by_phases, TightExact.lengths_are_exact}

-- a pattern that is periodic has its period, its offset and some jitter
periodic_parts : (pattern : StimulusKind) → is_periodic pattern ≡ true → pattern ≡ Periodic (least_distance pattern) (first_least pattern) (greatest_jitter pattern)
periodic_parts (Periodic period offset jitter) passes = refl
periodic_parts (Sporadic least greatest) passes = cc
periodic_parts (Burst period offset count distance) passes = cc

-- timed periodic groups of a sound system turn in each number of ticks that their periods divide
module _ (system : System) (sound : IsSound system) (groups : List Group) (all : All (IsGroupOfTask system) groups)
    (timed : are_timed_periodic system groups ≡ true) (ticks : ℕ) (divide : All (λ (group : Group). period_of system group ∣ ticks) groups) where
  turning_at : (place : ℕ) → place < length groups → IsTurning system ticks (group_at groups place)
  turning_at place within =
      let task = (group_at groups place).task in
      let parts = and_parts (is_timed (timing_at system task).access) (is_periodic (timing_at system task).pattern) (task_passes system groups place timed within) in
      let is = sound.tasks task (all place no_group within).is_task in
      record {
        periodic = record {
          jitter = greatest_jitter (timing_at system task).pattern;
          periodic = periodic_parts (timing_at system task).pattern parts.1;
          some_deadline = omega (arith, is.above_jitter);
          soon = is.within_distance;
        };
        timed = parts.0;
        divides = divide place no_group within;
      }

  turning : All (IsTurning system ticks) groups
  turning place d within = subst (IsTurning system ticks) (get_or_default groups place no_group d within) (turning_at place within)

-- some number of ticks is a common multiple of periods, so the least isn't 0
common_multiple_of : (system : System) (groups : List Group) → All (λ (group : Group). 1 ≤ period_of system group) groups
    → (ticks : ℕ) × (1 ≤ ticks) × All (λ (group : Group). period_of system group ∣ ticks) groups
common_multiple_of system [] all = (1, omega arith, All-nil (λ (group : Group). period_of system group ∣ 1))
common_multiple_of system (group ∷ later) all =
    let period : ℕ = period_of system group in
    let rest = common_multiple_of system later (All-tail (λ (other : Group). 1 ≤ period_of system other) group later all) in (
      period * rest.0,
      mul-pos (All-head (λ (other : Group). 1 ≤ period_of system other) group later all) rest.1,
      All-cons (λ (other : Group). period_of system other ∣ period * rest.0) group later (dvd-mul_right period rest.0)
          (All-weaker (λ (other : Group). period_of system other ∣ rest.0) (λ (other : Group). period_of system other ∣ period * rest.0)
          (λ other divides. dvd-mul_left_of_dvd (period_of system other) divides period) later rest.2),
    )

some_hyperperiod : (system : System) (groups : List Group) → All (λ (group : Group). 1 ≤ period_of system group) groups → (ticks : ℕ)
    → IsHyperperiod system groups ticks → 1 ≤ ticks
some_hyperperiod system groups all ticks is =
    let common = common_multiple_of system groups all in
    pos_of_dvd_of_pos (is.least common.0 common.2) common.1

-- from the earliest read of timed groups to their latest write, past their arrivals, is the last deadline
span_is : (system : System) (timing : Group → GroupTiming) (first : Group) (later : List Group)
    → All (λ (group : Group). IsTimedTiming system group (timing group)) (first ∷ later)
    → span_of timing (first ∷ later) ≡ pos (timing_at system (last_group (first ∷ later)).task).deadline
span_is system timing first later are =
    let last : ℕ = length later in
    let same : last ≡ length (first ∷ later) - 1 = omega arith in
    let ends = ap (λ (t : GroupTiming). t.write) (last_timing timing first later)
    ∙ (are last no_group (omega arith)).write
    ∙ ap (λ n. (timing_at system (group_at (first ∷ later) n).task).deadline) same in
    omega (arith, ints, ends, (are 0 no_group (omega arith)).read)

-- the timings by phases of timed groups are such
phased_timings : (system : System) (groups : List Group) → are_timed_periodic system groups ≡ true
    → All (λ (group : Group). IsTimedTiming system group (tight_timing system group)) groups
phased_timings system groups timed place d within =
    let task = (group_at groups place).task in
    let parts = and_parts (is_timed (timing_at system task).access) (is_periodic (timing_at system task).pattern) (task_passes system groups place timed within) in
    subst (λ (group : Group). IsTimedTiming system group (tight_timing system group)) (get_or_default groups place no_group d within)
    (timed_by_phases system (group_at groups place) parts.0)

module _ (system : System) (sound : IsSound system) (timing : Group → GroupTiming) (first : Group) (later : List Group)
    (all : All (IsGroupOfTask system) (first ∷ later)) (timed : are_timed_periodic system (first ∷ later) ≡ true)
    (timings : All (λ (group : Group). IsTimedTiming system group (timing group)) (first ∷ later)) (ticks : ℕ) (some : 1 ≤ ticks)
    (divide : All (λ (group : Group). period_of system group ∣ ticks) (first ∷ later)) (within : ticks ≤ MOST_ARRIVALS * period_of system first) where
  abbrev groups : List Group
  groups = first ∷ later

  abbrev stops : List Stop
  stops = stops_of system timing groups

  turns : (place : ℕ) → place < length groups → IsTurning system ticks (group_at groups place)
  turns = turning_at system sound groups all timed ticks divide

  keeps : (place : ℕ) → place < length groups → pace_at stops place ≡ Kept (ideal_phase system (group_at groups place))
  keeps place below = ap (λ found. pace_at found place)
      (all_keep_phase system ticks some first (turns 0 (omega arith)) within timing later (turning system sound groups all timed ticks divide))
      ∙ paces system timing groups place below

  as_many : length stops ≡ length groups
  as_many = length_stops system timing groups []

  are_ideal : AreIdealStops system groups stops
  are_ideal = record {
    some = omega arith;
    as_many = as_many;
    periodic = λ place below. (turns place below).periodic;
    paces = keeps;
    leads = λ place below. (over_all system sound timing groups all place (ideal_phase system (group_at groups place))
        (omega (arith, below, as_many)) (keeps place below) (pos 0) 0).leads;
    lags = λ place below. subst (IsIdealLag system (group_at groups place) (group_at groups (suc place))) (sym (stop_lag system timing groups [] place below))
        (timed_lag system (group_at groups place) (group_at groups (suc place)) (timing (group_at groups place)) (timing (group_at groups (suc place)))
        (timings place no_group (omega (arith, below))) (timings (suc place) no_group below) (turns place (omega (arith, below))).timed);
  }

  pub tight_is_exact : (exact : Witnesses) → AreExactLengths system groups exact → AreTied system groups exact
      → AreLengthsOf (tight_bounds system timing groups) exact
  tight_is_exact exact are_exact tied =
      let span = span_of timing groups in
      let write = last_write timing groups in
      let here : 0 < length groups = omega arith in
      subst (λ bounds. AreLengthsOf bounds exact) (phases_agree system sound timing groups all 0 here (ideal_phase system first) (keeps 0 here))
      (lengths_are_exact system groups stops (λ place below. stops_step system timing sound groups all [] place (omega (arith, below, as_many))) are_ideal
      ticks (record { some = some; whole = λ place below. (turns place below).divides }) span write (span_is system timing first later timings)
      (λ place below. over_all system sound timing groups all place (ideal_phase system (group_at groups place)) (omega (arith, below, as_many)) (keeps place below) span write)
      exact are_exact tied 0 here)

-- ---- groups of valid models

first_within : (ticks one other : ℕ) → ticks ≤ MOST_FIRST_JOBS * min one other → ticks ≤ MOST_ARRIVALS * one
first_within ticks one other within = omega (arith, within)

module _ (model : SystemModel) (valid : IsValid model) where
  abbrev system : System
  system = system_of model

  groups_tight : (timing : Group → GroupTiming) (groups : List Group) → AreTimedGroups model groups
      → All (λ (group : Group). IsTimedTiming system group (timing group)) groups → IsWithinLimit system groups → (exact : Witnesses)
      → AreExactLengths system groups exact → AreLengthsOf (tight_bounds system timing groups) exact
  groups_tight timing [] are timings within exact are_exact = absurd (omega (arith, are.some))
  groups_tight timing (first ∷ later) are timings within exact are_exact =
      let sound = system_sound model valid in
      let all = All-weaker (IsGroupOf model) (IsGroupOfTask system) (group_of_system model) (first ∷ later) are.of_tasks in
      let ticks : ℕ = within.hyperperiod in
      let divide = within.is_hyperperiod.multiple in
      let turn = turning system sound (first ∷ later) all are.timed_periodic ticks divide in
      let some = some_hyperperiod system (first ∷ later)
      (All-weaker (IsTurning system ticks) (λ (group : Group). 1 ≤ period_of system group)
      (λ group is. omega (arith, is.periodic.some_deadline, is.periodic.soon)) (first ∷ later) turn) ticks within.is_hyperperiod in
      tight_is_exact system sound timing first later all are.timed_periodic timings ticks some divide
      (first_within ticks (period_of system first) (period_of system (last_group (first ∷ later))) within.within) exact are_exact
      (groups_are_tied model valid (first ∷ later) are exact are_exact)

  pub tight_of_groups : (timing : Group → GroupTiming) (groups : List Group) → 0 < length groups → length groups ≤ MOST_STEPS → All (IsGroupOf model) groups
      → are_timed_periodic system groups ≡ true → All (λ (group : Group). IsTimedTiming system group (timing group)) groups
      → IsWithinLimit system groups → (exact : Witnesses)
      → AreExactLengths system groups exact → AreLengthsOf (tight_bounds system timing groups) exact
  tight_of_groups timing groups some few of_tasks timed =
      groups_tight timing groups (record { some = some; few = few; of_tasks = of_tasks; timed_periodic = timed })

  pub tight_of_chain : (timing : Group → GroupTiming) (chain : ℕ) → chain < length model.chains → is_timed_periodic_chain model chain ≡ true
      → All (λ (group : Group). IsTimedTiming system group (timing group)) (groups_at model chain)
      → IsWithinLimit system (groups_at model chain) → (exact : Witnesses)
      → AreExactLengths system (groups_at model chain) exact → AreLengthsOf (tight_bounds system timing (groups_at model chain)) exact
  tight_of_chain timing chain below timed = groups_tight timing (groups_at model chain) (timed_chain model valid chain below timed)

  -- so are those by phases
  pub phased_of_chain : (chain : ℕ) → chain < length model.chains → is_timed_periodic_chain model chain ≡ true
      → IsWithinLimit system (groups_at model chain) → (exact : Witnesses)
      → AreExactLengths system (groups_at model chain) exact → AreLengthsOf (tight_bounds system (tight_timing system) (groups_at model chain)) exact
  phased_of_chain chain below timed =
      tight_of_chain (tight_timing system) chain below timed
      (phased_timings system (groups_at model chain) (timed_chain model valid chain below timed).timed_periodic)
