-- The whole walks of the bounds of a valid model last as long as these, and show by how much each hop is missed. Times are in ticks.
use Rattle.std.proofs.Common.{◌≡◌, ℕ, suc, ◌+◌, ◌<◌, ◌≤◌, Bool, true, false, if◌then◌else◌, ℤ, pos, ◌+ℤ◌, ◌-ℤ◌, ◌≤ℤ◌, All, List, [], length, refl, sym, ap, ◌∙◌, arith}
use Rattle.std.specs.Prelude.{◌==◌}
use Rattle.std.proofs.lemmas.Int.{ints}
use Rattle.std.proofs.lemmas.List.Elements.{All-weaker}
use Rattle.cl_model.specs.{declared.{chain.{LengthKind.TheVariants.{Reaction, Age, Reduced}, RequirementKind.{RequirementKind, TheVariants.{Length, Delay}}}, group.Group.Group, model.SystemModel.SystemModel}, ByNumber.chain_at, Groups.{IsGroupOf, group_at, groups_at}, Holds.greatest_by}
use Rattle.cl_model.specs.Validity.{IsValid}
use Rattle.cl_model.proofs.GroupFacts.{groups_at_are, groups_at_some}
use Rattle.cl_runs.specs.{TaskTiming.System, SystemOf.system_of}
use Rattle.cl_runs.proofs.ModelSystem.{system_sound}
use Rattle.cl_hop.specs.{Bounds.Lengths, Hops.{saves, lag}, Timings.IsGroupOfTask, declared.group_timing.GroupTiming.GroupTiming}
use Rattle.cl_hop.proofs.ModelGroups.{group_of_system}
use Rattle.cl_phase.specs.{declared.{stop.Stop.Stop, whole.WholeWalk.WholeWalk}, Pace.{IsPace, previous}, Walks.{pace_at, lag_at, last_place}, TightBounds.{stops_of, span_of, last_write, slowest, hyperperiod_in, starts, ticks_or_none, bounds_from, tight_bounds}, Walked.lasts_from}
use Rattle.cl_phase.specs.{Walked.walk_start, Whole.{missed_at, taken_at, counted_at}, CompleteChains.AreSomeTicks}
use Rattle.cl_phase.proofs.{LongestStarts.{LastsFromStart, longest_from_start}, StopFacts.{length_stops, stop_lag, stop_is_pace, stops_slowest}, PaceSteps.paces_step, ShownStarts.fails_where}
use Rattle.cl_analyse.specs.{declared.findings.ChainAnswer.TheVariants.Bounds, Verdicts.limited_bound}
use Rattle.cl_tight.specs.{TightTimings.tight_timing, TightFindings.tight_chain_answer_of}
use Rattle.cl_tight.proofs.TightChains.{tight_answer, tight_given, tight_bounds_some}
use Rattle.cl_why.specs.{Hops.{timing_at_place, missed_arrival as listed_missed, taken_arrival as listed_taken}, Walks.{walk_from, walk_to, read_of_first, write_of_last}, Promises.{handed_over, IsMissedBy, IsWalkOfBound, LastAsBounds}}
use Rattle.cl_why.proofs.{JustMissed.just_misses, WalksLast.{ticks, misses_at, takes_at, lasts, last_write_is, span_is}}

-- ---- of groups

-- the longest that walks of a kind last
abbrev longest_of : RequirementKind → List Stop → (span : ℤ) → (write : ℕ) → ℕ
longest_of kind stops span write =
    greatest_by (λ arrival. ticks_or_none (lasts_from kind stops span write (slowest stops) (pos arrival)))
    (starts (pace_at stops (slowest stops)) (hyperperiod_in stops))

-- each tight bound is that
longest : (system : System) (timing : Group → GroupTiming) (groups : List Group) (kind : RequirementKind) (bounds : Lengths)
    → tight_bounds system timing groups ≡ bounds
    → longest_of kind (stops_of system timing groups) (span_of timing groups) (last_write timing groups) ≡ limited_bound kind bounds
unfolding tight_bounds bounds_from
longest system timing groups (Length Reaction) bounds is = ap (λ (b : Lengths). b.reaction) is
longest system timing groups (Length Age) bounds is = ap (λ (b : Lengths). b.age) is
longest system timing groups (Length Reduced) bounds is = ap (λ (b : Lengths). b.reduced) is
longest system timing groups Delay bounds is = ap (λ (b : Lengths). b.delay) is

some_bound : (kind : RequirementKind) (bounds : Lengths) → AreSomeTicks bounds → 1 ≤ limited_bound kind bounds
some_bound (Length Reaction) bounds some = some.reaction
some_bound (Length Age) bounds some = some.age
some_bound (Length Reduced) bounds some = some.reduced
some_bound Delay bounds some = some.delay

-- before the last group a walk lists the job that takes
counts_takes : (kind : RequirementKind) (stops : List Stop) (start : ℤ) (place : ℕ) → place + 1 < length stops
    → counted_at kind stops (slowest stops) start place ≡ taken_at stops (slowest stops) start place
counts_takes (Length Reaction) stops start place within = refl
counts_takes (Length Age) stops start place within = refl
counts_takes (Length Reduced) stops start place within =
    let earlier : (place == last_place stops) ≡ false = fails_where place (last_place stops) (λ same. omega (arith, within, same)) in
    ap (λ (b : Bool). if b then previous (pace_at stops place) (taken_at stops (slowest stops) start place)
    else taken_at stops (slowest stops) start place) earlier
counts_takes Delay stops start place within = refl

-- the lag of groups that aren't of one task, from what the writer hands over to what the reader reads
lag_is : (writer reader : GroupTiming) → (writer.task == reader.task) ≡ false → lag writer reader ≡ (pos (handed_over writer reader) -ℤ pos reader.read)
lag_is writer reader apart =
    ap (λ (b : Bool). if b then pos 1 else if saves writer reader then pos writer.jitter -ℤ pos reader.read
    else pos writer.write -ℤ pos reader.read) apart
    ∙ either (saves writer reader)
  where
    either : (b : Bool) → (if b then pos writer.jitter -ℤ pos reader.read else pos writer.write -ℤ pos reader.read)
        ≡ (pos (if b then writer.jitter else writer.write) -ℤ pos reader.read)
    either true = refl
    either false = refl

-- a walk that is moved misses by as much
some_late : (missed taken own more from to lag : ℤ) → from ≡ (missed +ℤ more) → to ≡ (taken +ℤ more) → own ≡ lag
    → (missed +ℤ pos 1) ≤ℤ (taken +ℤ own) → pos 1 ≤ℤ ((to +ℤ lag) -ℤ from)
some_late missed taken own more from to lag from_is to_is own_is less = omega (arith, ints, from_is, to_is, own_is, less)

-- and so much later a job reads where the writer hands over
reads_there : (from to lag : ℤ) (handed read : ℕ) → lag ≡ (pos handed -ℤ pos read)
    → ((from +ℤ ((to +ℤ lag) -ℤ from)) +ℤ pos read) ≡ (to +ℤ pos handed)
reads_there from to lag handed read is = omega (arith, ints, is)

-- ---- of a chain

module _ (model : SystemModel) (valid : IsValid model) (chain : ℕ) (kind : RequirementKind) (bounds : Lengths) (walk : WholeWalk)
    (within : chain < length model.chains)
    (is : tight_chain_answer_of model (chain_at model chain) ≡ Bounds bounds) (is_walk : IsWalkOfBound model chain kind bounds walk) where
  abbrev system : System
  system = system_of model

  abbrev timing : Group → GroupTiming
  timing = tight_timing system

  abbrev groups : List Group
  groups = groups_at model chain

  abbrev stops : List Stop
  stops = stops_of system timing groups

  of_tasks : All (IsGroupOfTask system) groups
  of_tasks = All-weaker (IsGroupOf model) (IsGroupOfTask system) (group_of_system model) groups (groups_at_are model valid chain)

  some_groups : 0 < length groups
  some_groups = groups_at_some model valid chain within

  many : length stops ≡ length groups
  many = length_stops system timing groups []

  abbrev span : ℤ
  span = span_of timing groups

  abbrev write : ℕ
  write = last_write timing groups

  abbrev place : ℕ
  place = slowest stops

  abbrev bound : ℕ
  bound = limited_bound kind bounds

  abbrev start : ℤ
  start = pos (walk_start kind stops span write place bound)

  paced : (other : ℕ) → other < length stops → IsPace (pace_at stops other)
  paced other h = stop_is_pace system timing (system_sound model valid) groups of_tasks [] other (omega (arith, h, many))

  slowest_within : place < length stops
  slowest_within = omega (arith, stops_slowest system timing (system_sound model valid) groups of_tasks [] some_groups, many)

  walk_lasts : walk_to walk (write_of_last model chain) ≡ (walk_from walk kind (read_of_first model chain) +ℤ pos (limited_bound kind bounds))
  walk_lasts =
      let given = tight_answer model valid chain within ∙ is in
      let own : tight_bounds system timing groups ≡ bounds = (tight_given model valid chain within bounds given).1 in
      let some : AreSomeTicks bounds = tight_bounds_some model valid chain within bounds given in
      let found : LastsFromStart kind stops span write place bound
      = longest_from_start kind stops span write place bound (paced place slowest_within)
      (some_bound kind bounds some) (longest system timing groups kind bounds own) in
      ap (walk_to walk) (sym (last_write_is timing groups some_groups))
      ∙ lasts stops (omega (arith, many, some_groups)) paced slowest_within span (read_of_first model chain) write bound walk
      (span_is timing groups some_groups) kind found is_walk

  module _ (group : ℕ) (has_next : group + 1 < length groups)
      (apart : ((timing_at_place model chain group).task == (timing_at_place model chain (group + 1)).task) ≡ false) where
    abbrev writer : GroupTiming
    writer = timing_at_place model chain group

    abbrev reader : GroupTiming
    reader = timing_at_place model chain (group + 1)

    abbrev more : ℤ
    more = ticks stops kind start walk is_walk

    next_within : group + 1 < length stops
    next_within = omega (arith, has_next, many)

    misses : listed_missed walk (group + 1) ≡ (missed_at stops place start (group + 1) +ℤ more)
    misses = misses_at stops kind start walk is_walk (group + 1) next_within

    takes : listed_taken walk group ≡ (taken_at stops place start group +ℤ more)
    takes = takes_at stops kind start walk is_walk group (omega (arith, next_within))
        ∙ ap (λ z. z +ℤ more) (counts_takes kind stops start group next_within)

    lags : lag_at stops group ≡ lag writer reader
    lags =
        let next : suc group ≡ group + 1 = omega arith in
        stop_lag system timing groups [] group (omega (arith, has_next))
        ∙ ap (λ n. lag (timing (group_at groups group)) (timing (group_at groups n))) next

    is_missed_by : IsMissedBy walk group writer reader
    is_missed_by = record {
      some = some_late (missed_at stops place start (group + 1)) (taken_at stops place start group) (lag_at stops group) more
          (listed_missed walk (group + 1)) (listed_taken walk group) (lag writer reader) misses takes lags
          (just_misses stops (λ other h. paces_step (pace_at stops other) (paced other h)) place start group next_within);
      takes = reads_there (listed_missed walk (group + 1)) (listed_taken walk group) (lag writer reader) (handed_over writer reader) reader.read
          (lag_is writer reader apart);
    }

-- so it is for each chain of a valid model
pub last_as_bounds : (model : SystemModel) → IsValid model → LastAsBounds model
last_as_bounds model valid = record {
  lasts = λ chain kind bounds walk within is is_walk. walk_lasts model valid chain kind bounds walk within is is_walk;
  missed = λ chain kind bounds walk within is is_walk place has_next kept next_kept apart.
      is_missed_by model valid chain kind bounds walk within is is_walk place has_next apart;
}
