-- Following a run on a core: where it does what the core does next, it keeps the schedule, and else it breaks it there.
use Rattle.std.proofs.Common.{◌≡◌, ◌≢◌, ℕ, zero, suc, ◌+◌, ◌-◌, ◌<◌, ◌≤◌, inl, inr, Option, None, Bool, true, false, eqb, List, [], ◌∷◌, ◌++◌, replicate, length, get_or, take, refl, sym, ap, ◌∙◌, subst, arith, length-append}
use Rattle.std.specs.Prelude.{not}
use Rattle.std.specs.Option.{option_eq}
use Rattle.std.proofs.lemmas.Bool.{cases_lt}
use Rattle.std.proofs.lemmas.List.{same_lists, length-take-le, length-replicate, get_or_append_left, get_or-append_right, get_or-replicate, get_or-take, get_or_default}
use Rattle.cl_runs.specs.{TaskTiming.{System, IsSound}, Run.{Run, core_entries, entry_at, executed}, Legal.IsScheduled}
use Rattle.cl_runs.proofs.Scheduling.{scheduled_alike, scheduled_once}
use Rattle.cl_run_data.specs.{declared.stretches.Stretch.Stretch, Stretches.{entries_from, AreStretchesOf, LastsFrom}, Inner.StretchPlaces.end_from}
use Rattle.cl_run_data.proofs.{StretchFacts.{length-entries, end_at_last, ends_rise, who_same, who_other}, StretchEntries.{entry_of_tick, lasts_some}}
use Rattle.cl_sched.specs.{declared.core_progress.CoreProgress.CoreProgress, CoreProgress.{ticks_of, IsScheduledUntil, IsReached}}
use Rattle.cl_sched.proofs.FullCores.{alike}
use Rattle.cl_check.specs.{declared.run_fault.{Rule.TheVariants.Schedule, RunFault.TheVariants.Illegal}, Legality.{IsScheduleKept, BreaksCore}, Inner.Following.{IsFollowed, Lasts}}

-- first entries and further equal ones are the first entries up to there
pub taken : (entries : List (Option ℕ)) (a t : ℕ) (who : Option ℕ) → a ≤ t → t ≤ length entries
    → ((u : ℕ) → a ≤ u → u < t → get_or entries u None ≡ who) → take a entries ++ replicate (t - a) who ≡ take t entries
taken entries a t who after within same = same_lists (take a entries ++ replicate (t - a) who) (take t entries) long
    (λ k d lt. elim (cases_lt k a) [
      | inl old ↦ get_or_append_left (take a entries) (replicate (t - a) who) d k (omega (arith, old, first))
          ∙ get_or-take a entries k d old ∙ sym (get_or-take t entries k d (omega (arith, old, after)))
      | inr new ↦
          let below : k < t = omega (arith, lt, long, length-take-le t entries within) in
          get_or-append_right (take a entries) (replicate (t - a) who) a k d first new
          ∙ get_or-replicate (t - a) (k - a) who d (omega (arith, new, below)) ∙ sym (same k new below)
          ∙ get_or_default entries k None d (omega (arith, below, within)) ∙ sym (get_or-take t entries k d below)
    ])
  where
    first : length (take a entries) ≡ a
    first = length-take-le a entries (omega (arith, after, within))

    long : length (take a entries ++ replicate (t - a) who) ≡ length (take t entries)
    long = omega (
      arith,
      length-append (take a entries) (replicate (t - a) who),
      length-replicate (t - a) who,
      first,
      length-take-le t entries within,
      after,
    )

module _ (system : System) (sound : IsSound system) (run : Run) (core : ℕ) (ticks : length (core_entries run core) ≡ run.table.ticks)
    (reached : CoreProgress) (followed : IsFollowed system run core reached) (stretch : Stretch) (lasts : Lasts run core reached.tick stretch)
    (who : Option ℕ) (until : ℕ) (some : reached.tick < until) (within : until ≤ stretch.end)
    (scheduled : IsScheduledUntil system run.table core (take reached.tick (core_entries run core)) until who) where
  abbrev entries : List (Option ℕ)
  entries = core_entries run core

  at_tick : (t : ℕ) → reached.tick ≤ t → t < until
      → IsScheduled system run.table (ticks_of (take reached.tick entries ++ replicate (t - reached.tick) who)) t core who
  at_tick t after before =
      let long : length (take reached.tick entries) ≡ reached.tick
      = length-take-le reached.tick entries (omega (arith, lasts.ahead, lasts.within, ticks)) in
      let is : length (take reached.tick entries) + (t - reached.tick) ≡ t = omega (arith, after, long) in
      subst (λ u. IsScheduled system run.table (ticks_of (take reached.tick entries ++ replicate (t - reached.tick) who)) u core who) is
      (scheduled (t - reached.tick) (omega (arith, is, before)))

  -- what is scheduled after the first entries is what is scheduled in the run
  in_run : (t : ℕ) (e : Option ℕ) → IsScheduled system run.table (ticks_of (take t entries)) t core e
      → IsScheduled system run.table (λ task. executed system run task t) t core e
  in_run t e is = scheduled_alike system run.table run.table _ _ t core (alike system run core t) e is

  -- ---- where the stretch is what the core does next

  module _ (same : who ≡ stretch.who) where
    up_to : (t : ℕ) → reached.tick ≤ t → t ≤ until → take reached.tick entries ++ replicate (t - reached.tick) who ≡ take t entries
    up_to t after before = taken entries reached.tick t who after (omega (arith, before, within, lasts.within, ticks))
        (λ u first last. lasts.entries u first (omega (arith, last, before, within)) ∙ sym same)

    kept_there : (t : ℕ) → reached.tick ≤ t → t < until → IsScheduleKept system run core t
    kept_there t after before = subst (λ e. IsScheduled system run.table (λ task. executed system run task t) t core e)
        (same ∙ sym (lasts.entries t after (omega (arith, before, within))))
        (in_run t who (subst (λ (l : List (Option ℕ)). IsScheduled system run.table (ticks_of l) t core who) (up_to t after (omega (arith, before)))
        (at_tick t after before)))

    pub followed_further : (moved : CoreProgress) → moved.tick ≡ until
        → IsReached system run.table core (take reached.tick entries ++ replicate (until - reached.tick) who) moved
        → IsFollowed system run core moved
    followed_further moved end at = record {
      reached_is = subst (λ (l : List (Option ℕ)). IsReached system run.table core l moved)
          (up_to until (omega (arith, some)) (omega arith) ∙ ap (λ n. take n entries) (sym end)) at;
      kept = λ t before. elim (cases_lt t reached.tick) [
        | inl old ↦ followed.kept t old
        | inr new ↦ kept_there t new (omega (arith, before, end))
      ];
    }

    pub lasts_further : (moved : CoreProgress) → moved.tick ≡ until → Lasts run core moved.tick stretch
    lasts_further moved end = record {
      ahead = omega (arith, end, within);
      within = lasts.within;
      entries = λ t after before. lasts.entries t (omega (arith, after, end, some)) before;
    }

  -- ---- where it isn't

  now : take reached.tick entries ++ replicate (reached.tick - reached.tick) who ≡ take reached.tick entries
  now = taken entries reached.tick reached.tick who (omega arith) (omega (arith, lasts.ahead, lasts.within, ticks))
      (λ u first last. absurd (omega (arith, first, last)))

  pub breaks_there : who ≢ stretch.who → BreaksCore system run core (Illegal Schedule core reached.tick)
  breaks_there other = record {
    tick = reached.tick;
    fault_is = refl;
    first_there = record {
      is_tick = omega (arith, some, within, lasts.within);
      broken = λ kept. other (scheduled_once system sound run.table (λ task. executed system run task reached.tick) reached.tick core who (entry_at run core reached.tick)
          (in_run reached.tick who (subst (λ (l : List (Option ℕ)). IsScheduled system run.table (ticks_of l) reached.tick core who) now
          (at_tick reached.tick (omega arith) some))) kept
          ∙ lasts.entries reached.tick (omega arith) (omega (arith, some, within)));
      earlier = followed.kept;
    };
  }

-- ---- comparing entries

not_true : (b : Bool) → true ≡ not b → b ≡ false
not_true true is = cc
not_true false is = refl

not_false : (b : Bool) → false ≡ not b → b ≡ true
not_false true is = refl
not_false false is = cc

pub entries_same : (one other : Option ℕ) (b : Bool) → b ≡ not (option_eq eqb one other) → b ≡ false → one ≡ other
entries_same one other b is fails = who_same one other (not_false (option_eq eqb one other) (sym fails ∙ is))

pub entries_differ : (one other : Option ℕ) (b : Bool) → b ≡ not (option_eq eqb one other) → b ≡ true → one ≢ other
entries_differ one other b is holds = who_other one other (not_true (option_eq eqb one other) (sym holds ∙ is))

-- ---- the stretches of a core

-- each ends with the entries, or earlier
pub end_within : (entries : List (Option ℕ)) (stretches : List Stretch) → AreStretchesOf entries stretches → (place : ℕ) (d : Stretch)
    → place < length stretches → (get_or stretches place d).end ≤ length entries
end_within entries stretches of place d h =
    let last : suc (length stretches - 1) ≡ length stretches = omega (arith, h) in
    let all : (get_or stretches (length stretches - 1) d).end ≡ length entries
    = sym (end_at_last stretches 0 (length stretches - 1) d last) ∙ entries_end of in
    elim (cases_lt place (length stretches - 1)) [
      | inl earlier ↦ omega (arith, all, ends_rise stretches 0 place (length stretches - 1) d of.longest earlier (omega (arith, h)))
      | inr this ↦
          let same : place ≡ length stretches - 1 = omega (arith, this, h) in
          omega (arith, all, ap (λ n. (get_or stretches n d).end) same)
    ]
  where
    entries_end : AreStretchesOf entries stretches → end_from 0 stretches ≡ length entries
    entries_end of = omega (arith, length-entries stretches 0 of.longest, ap length of.entries_are)

-- a stretch begins where the one before it ends, and the first at tick 0
pub record BeginsAt (stretches : List Stretch) (place tick : ℕ) : Type 0 where
  pub first : place ≡ 0 → tick ≡ 0
  pub next : (before : ℕ) (d : Stretch) → suc before ≡ place → tick ≡ (get_or stretches before d).end

pub begins_first : (stretches : List Stretch) (tick : ℕ) → tick ≡ 0 → BeginsAt stretches 0 tick
begins_first stretches tick is = record { first = λ _. is; next = λ before d same. absurd (omega (arith, same)) }

pub begins_next : (stretches : List Stretch) (place next tick : ℕ) (stretch : Stretch) → next ≡ suc place → place < length stretches
    → stretch ≡ get_or stretches place stretch → tick ≡ stretch.end → BeginsAt stretches next tick
begins_next stretches place next tick stretch next_is h read is = record {
  first = λ none. absurd (omega (arith, none, next_is));
  next = λ before d same.
      let at : before ≡ place = omega (arith, same, next_is) in
      is ∙ ap (λ (s : Stretch). s.end) (read ∙ get_or_default stretches place stretch d h) ∙ ap (λ n. (get_or stretches n d).end) (sym at);
}

module _ (run : Run) (core : ℕ) (stretches : List Stretch) (of : AreStretchesOf (core_entries run core) stretches)
    (ticks : length (core_entries run core) ≡ run.table.ticks) where
  -- a stretch lasts from its beginning
  lasts_from : (place tick : ℕ) (stretch : Stretch) → place < length stretches → stretch ≡ get_or stretches place stretch
      → BeginsAt stretches place tick → LastsFrom stretches place tick stretch.end
  lasts_from place tick stretch h read begins = record {
    within = h;
    first = begins.first;
    next = begins.next;
    ends = λ d. ap (λ (s : Stretch). s.end) (read ∙ get_or_default stretches place stretch d h);
  }

  -- for a tick at least
  pub some_at : (place tick : ℕ) (stretch : Stretch) → place < length stretches → stretch ≡ get_or stretches place stretch
      → BeginsAt stretches place tick → tick < stretch.end
  some_at place tick stretch h read begins =
      lasts_some (core_entries run core) stretches of place tick stretch.end (lasts_from place tick stretch h read begins)

  -- the entries from its beginning on are those of a stretch
  pub lasts_at : (place tick : ℕ) (stretch : Stretch) → place < length stretches → stretch ≡ get_or stretches place stretch
      → BeginsAt stretches place tick → Lasts run core tick stretch
  lasts_at place tick stretch h read begins =
      let from = lasts_from place tick stretch h read begins in
      record {
        ahead = omega (arith, some_at place tick stretch h read begins);
        within = omega (arith, ticks, end_within (core_entries run core) stretches of place stretch h, from.ends stretch);
        entries = λ t after before. entry_of_tick (core_entries run core) stretches of place tick stretch.end from t stretch after before
            ∙ ap (λ (s : Stretch). s.who) (sym read);
      }

  -- after the last stretch, all ticks are over
  pub all_over : (place tick : ℕ) → place ≡ length stretches → BeginsAt stretches place tick → run.table.ticks ≤ tick
  all_over zero tick is begins = omega (arith, ticks, ap length of.entries_are, none_from stretches (sym is))
    where
      none_from : (ss : List Stretch) → length ss ≡ 0 → length (entries_from 0 ss) ≡ 0
      none_from [] none = refl
      none_from (s ∷ ss) none = absurd (omega arith)
  all_over (suc before) tick is begins =
      let d : Stretch = record { who = None; end = 0 } in
      omega (
        arith,
        ticks,
        begins.next before d refl,
        end_at_last stretches 0 before d is,
        length-entries stretches 0 of.longest,
        ap length of.entries_are,
      )
