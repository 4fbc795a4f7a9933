-- Run lines that were read, core by core.
use Rattle.std.proofs.Common.{◌≡◌, ◌≢◌, ℕ, zero, suc, ◌+◌, ◌-◌, ◌<◌, inl, inr, Option, Some, None, List, [], ◌∷◌, ◌++◌, length, get_or, replicate, refl, sym, ap, ◌∙◌, subst, arith}
use Rattle.std.specs.List.{All}
use Rattle.std.proofs.lemmas.Bool.{cases_lt}
use Rattle.std.proofs.lemmas.List.Elements.{All-nil, All-head, All-tail}
use Rattle.cl_model.specs.{declared.model.SystemModel.SystemModel, ByNumber.core_of}
use Rattle.cl_runs.specs.{TaskTiming.Timing, Run.IsEntryOf, SystemOf.system_of}
use Rattle.cl_runs.proofs.ModelSystem.{count_is, timing_is}
use Rattle.cl_run_data.specs.{declared.stretches.Stretch.Stretch, Stretches.AreStretchesOf, Inner.StretchPlaces.end_from}
use Rattle.cl_run_data.proofs.StretchFacts.{end_at_last}
use Rattle.cl_trace.specs.{Stretches.stretches_of, Trace.{Item, Runs, item_text, text_of, stretch_item, stretch_items}, Rules.{IsAboveRun, IsBelowRun}, Inner.Bodies.{AreEntriesOf, AreAllEntriesOf, IsStretchWithin, FitsEntries, idle_up_to, entries_appended}}
use Rattle.cl_trace.proofs.{JobLines.text_more, LongestStretches.own_stretches, StretchItems.{EndsOther, no_stretch, size, last_entry, appended_items, appended_length, idle_items, idle_length, all_replicate}}

pub no_end : (who : Option ℕ) → EndsOther [] who
no_end who tick end = absurd (omega arith)

pub no_entries : (model : SystemModel) (ticks core : ℕ) (text : List ℕ) → AreEntriesOf model ticks core text [] text
unfolding stretches_of
no_entries model ticks core text = record { in_time = omega arith; of_core = All-nil (IsEntryOf (system_of model) core); parts = refl }

-- a task of the core is an entry of it
entry_is : (model : SystemModel) (core task : ℕ) → task < length model.tasks → core_of model task ≡ core → IsEntryOf (system_of model) core (Some task)
entry_is model core task lt is =
    (omega (arith, lt, count_is model), ap (λ (t : Timing). t.core) (timing_is model task lt) ∙ is)

module _ (model : SystemModel) (ticks core : ℕ) (text : List ℕ) (entries : List (Option ℕ)) (left : List ℕ)
    (are : AreEntriesOf model ticks core text entries left) (busy : EndsOther entries None) where
  -- one more line
  pub entries_more : (task from to : ℕ) (rest : List ℕ) → IsStretchWithin model ticks task from to → FitsEntries model core entries task from
      → left ≡ item_text model (Runs task from to) ++ rest → AreEntriesOf model ticks core text (entries_appended entries task from to) rest
  entries_more task from to rest within fits is = record {
    in_time = omega (arith, appended_length entries from busy fits.after task to within.some fits.changes, within.in_time);
    of_core = all_replicate (IsEntryOf (system_of model) core) (idle_up_to entries from) (to - from) (Some task)
        (all_replicate (IsEntryOf (system_of model) core) entries (from - length entries) None are.of_core tt)
        (entry_is model core task within.is_task fits.on_core);
    parts = text_more model (stretch_items 0 (stretches_of entries)) (Runs task from to) text left rest are.parts is
        ∙ ap (λ items. text_of model items ++ rest) (sym (appended_items entries from busy fits.after task to within.some fits.changes));
  }

-- what holds of a list holds of its end
pub all_right : {X : Type 0} (P : X → Type 0) (xs ys : List X) → All P (xs ++ ys) → All P ys
all_right P [] ys all = all
all_right P (x ∷ xs) ys all = all_right P xs ys (All-tail P x (xs ++ ys) all)

-- what holds of all lines holds of that of the last stretch
last_item : (P : Item → Type 0) (ss : List Stretch) (from n other : ℕ) → suc n ≡ length ss → All P (stretch_items from ss)
    → (get_or ss n no_stretch).who ≡ Some other → (start : ℕ) × P (Runs other start (get_or ss n no_stretch).end)
last_item P [] from n other last all is = absurd (omega arith)
last_item P (s ∷ []) from zero other last all is =
    (from, All-head P (Runs other from s.end) [] (subst (λ w. All P (stretch_item w from s.end ++ [])) is all))
last_item P (s ∷ []) from (suc n) other last all is = absurd (omega arith)
last_item P (s ∷ next ∷ ss) from zero other last all is = absurd (omega arith)
last_item P (s ∷ next ∷ ss) from (suc n) other last all is =
    last_item P (next ∷ ss) s.end n other (omega arith) (all_right P (stretch_item s.who from s.end) (stretch_items s.end (next ∷ ss)) all) is

-- the core of a task that is an entry
pub core_is : (model : SystemModel) (core task : ℕ) → IsEntryOf (system_of model) core (Some task) → core_of model task ≡ core
core_is model core task is =
    sym (ap (λ (t : Timing). t.core) (timing_is model task (omega (arith, is.0, count_is model)))) ∙ is.1

module _ (model : SystemModel) (core : ℕ) (entries : List (Option ℕ)) (of_core : All (IsEntryOf (system_of model) core) entries)
    (busy : EndsOther entries None) (task from : ℕ) (on_core : core_of model task ≡ core)
    (all : All (IsAboveRun model task from) (stretch_items 0 (stretches_of entries))) where
  ss : List Stretch
  ss = stretches_of entries

  own : AreStretchesOf entries (stretches_of entries)
  own = own_stretches entries

  whole : end_from 0 (stretches_of entries) ≡ length entries
  whole = sym (size (stretches_of entries) own.longest) ∙ ap length own.entries_are

  -- the last entry is a task that this one follows
  pub last_followed : (n tick : ℕ) → suc n ≡ length (stretches_of entries) → tick + 1 ≡ length entries
      → (other : ℕ) × (get_or entries tick None ≡ Some other) × IsBelowRun model other (length entries) task from
  last_followed n tick last end = by_who (get_or (stretches_of entries) n no_stretch).who refl
    where
      entry : get_or entries tick None ≡ (get_or (stretches_of entries) n no_stretch).who
      entry = ap (λ (es : List (Option ℕ)). get_or es tick None) (sym own.entries_are)
          ∙ last_entry (stretches_of entries) own.longest n tick no_stretch last (omega (arith, end, whole))

      end_is : (get_or (stretches_of entries) n no_stretch).end ≡ length entries
      end_is = sym (end_at_last (stretches_of entries) 0 n no_stretch last) ∙ whole

      by_who : (who : Option ℕ) → (get_or (stretches_of entries) n no_stretch).who ≡ who
          → (other : ℕ) × (get_or entries tick None ≡ Some other) × IsBelowRun model other (length entries) task from
      by_who None is = absurd (busy tick end (entry ∙ is))
      by_who (Some other) is =
          let item = last_item (IsAboveRun model task from) (stretches_of entries) 0 n other last all is in
          (other, entry ∙ is, subst (λ e. IsBelowRun model other e task from) end_is item.1)

  pub fits_last : FitsEntries model core entries task from
  fits_last = elim (cases_lt 0 (length entries)) [
    | inl some ↦ by_last (length (stretches_of entries) - 1) (length entries - 1) (omega (arith, stretches_some some)) (omega arith)
    | inr none ↦ record { on_core = on_core; after = omega arith; changes = λ tick end. absurd (omega arith) }
  ]
    where
      stretches_some : 0 < length entries → 0 < length (stretches_of entries)
      stretches_some some = by_list (stretches_of entries) whole
        where
          by_list : (xs : List Stretch) → end_from 0 xs ≡ length entries → 0 < length xs
          by_list [] is = absurd (omega (arith, is, some))
          by_list (x ∷ xs) is = omega arith

      by_last : (n tick : ℕ) → suc n ≡ length (stretches_of entries) → tick + 1 ≡ length entries → FitsEntries model core entries task from
      by_last n tick last end =
          let found = last_followed n tick last end in
          let other_core : core_of model found.0 ≡ core = core_is model core found.0 (subst (IsEntryOf (system_of model) core) found.1 (of_core tick None (omega arith))) in
          let same_core : core_of model found.0 ≡ core_of model task = other_core ∙ sym on_core in
          record {
            on_core = on_core;
            after = found.2.after same_core;
            changes = λ at at_end at_from is.
                let same_tick : at ≡ tick = omega (arith, at_end, end) in
                let same_task : Some found.0 ≡ Some task = sym found.1 ∙ ap (λ t. get_or entries t None) (sym same_tick) ∙ is in
                found.2.changes same_core at_from cc;
          }

module _ (model : SystemModel) (ticks core : ℕ) (text : List ℕ) (entries : List (Option ℕ)) (left : List ℕ)
    (are : AreEntriesOf model ticks core text entries left) (busy : EndsOther entries None)
    (none : (task from to : ℕ) (rest : List ℕ) → IsStretchWithin model ticks task from to → FitsEntries model core entries task from
    → left ≢ item_text model (Runs task from to) ++ rest) where
  -- no more lines, and idle ticks up to the end
  pub entries_all : AreAllEntriesOf model ticks core text (entries ++ replicate (ticks - length entries) None) left
  entries_all = record {
    read = record {
      in_time = omega (arith, idle_length entries ticks busy are.in_time);
      of_core = all_replicate (IsEntryOf (system_of model) core) entries (ticks - length entries) None are.of_core tt;
      parts = are.parts ∙ ap (λ items. text_of model items ++ left) (sym (idle_items entries ticks busy are.in_time));
    };
    filled = idle_length entries ticks busy are.in_time;
    none_left = λ task from to after within on_core all.
        none task from to after within
        (fits_last model core entries are.of_core busy task from on_core (subst (All (IsAboveRun model task from)) (idle_items entries ticks busy are.in_time) all));
  }
