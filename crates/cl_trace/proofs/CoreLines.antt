-- Run lines of all cores: those of one core more.
use Rattle.std.proofs.Common.{◌≡◌, ◌≢◌, ℕ, ◌+◌, ◌<◌, inl, inr, Option, Some, None, List, [], ◌∷◌, ◌++◌, length, get_or, refl, sym, ap, ◌∙◌, subst, arith}
use Rattle.std.specs.List.{All, flat_map, range_with_len}
use Rattle.std.proofs.lemmas.Bool.{cases_lt}
use Rattle.std.proofs.lemmas.List.{get_or-set_other}
use Rattle.std.proofs.lemmas.List.Elements.{All-nil, All-cons, All-append, All-head, All-tail}
use Rattle.cl_model.specs.{declared.model.SystemModel.SystemModel, ByNumber.core_of}
use Rattle.cl_runs.specs.{Run.{Run, core_entries, IsEntryOf}, SystemOf.system_of}
use Rattle.cl_run_data.specs.declared.stretches.Stretch.{Stretch}
use Rattle.cl_trace.specs.{Stretches.stretches_of, Trace.{Item, Title, Ticks, JobOf, Runs, End, text_of, stretch_item, stretch_items, core_items}, Rules.IsAboveRun, Inner.Bodies.{AreAllEntriesOf, AreCores, IsRunWith}}
use Rattle.cl_trace.proofs.{JobLines.{text_all, items_same}, LongestStretches.own_stretches, Puts.items_more, RunLines.{all_right, core_is}, StretchTasks.of_stretches}

-- a line is a run line of a core
abbrev pub IsOfCore : SystemModel → (core : ℕ) → Item → Type 0
IsOfCore model core (Runs task from to) = core_of model task ≡ core
IsOfCore model core item = ⊥

items_of_core : (model : SystemModel) (core : ℕ) (ss : List Stretch) (from : ℕ) → All (λ (s : Stretch). IsEntryOf (system_of model) core s.who) ss
    → All (IsOfCore model core) (stretch_items from ss)
items_of_core model core [] from all = All-nil (IsOfCore model core)
items_of_core model core (s ∷ ss) from all =
    All-append (IsOfCore model core) (stretch_item s.who from s.end) (stretch_items s.end ss)
    (of_who s.who (All-head (λ (s : Stretch). IsEntryOf (system_of model) core s.who) s ss all))
    (items_of_core model core ss s.end (All-tail (λ (s : Stretch). IsEntryOf (system_of model) core s.who) s ss all))
  where
    of_who : (who : Option ℕ) → IsEntryOf (system_of model) core who → All (IsOfCore model core) (stretch_item who from s.end)
    of_who None is = All-nil (IsOfCore model core)
    of_who (Some task) is = All-cons (IsOfCore model core) (Runs task from s.end) [] (core_is model core task is) (All-nil (IsOfCore model core))

pub core_items_of : (model : SystemModel) (core : ℕ) (entries : List (Option ℕ)) → All (IsEntryOf (system_of model) core) entries
    → All (IsOfCore model core) (stretch_items 0 (stretches_of entries))
core_items_of model core entries all =
    items_of_core model core (stretches_of entries) 0
    (of_stretches (IsEntryOf (system_of model) core) (stretches_of entries) 0 (own_stretches entries).longest
    (subst (All (IsEntryOf (system_of model) core)) (sym (own_stretches entries).entries_are) all))

-- what a line of an earlier core may stand below is no line of this core
no_lines : (model : SystemModel) (core task from : ℕ) (items : List Item) → core_of model task < core → All (IsOfCore model core) items
    → All (IsAboveRun model task from) items → items ≡ []
no_lines model core task from [] below of above = refl
no_lines model core task from (item ∷ items) below of above =
    absurd (first item (All-head (IsOfCore model core) item items of) (All-head (IsAboveRun model task from) item items above))
  where
    first : (item : Item) → IsOfCore model core item → IsAboveRun model task from item → ⊥
    first Title of above = of
    first (Ticks n) of above = of
    first (JobOf other job) of above = of
    first (Runs other start end) of above = omega (arith, of, above.cores, below)
    first End of above = of

pub all_left : {X : Type 0} (P : X → Type 0) (xs ys : List X) → All P (xs ++ ys) → All P xs
all_left P [] ys all = All-nil P
all_left P (x ∷ xs) ys all = All-cons P x xs (All-head P x (xs ++ ys) all) (all_left P xs ys (All-tail P x (xs ++ ys) all))

module _ (model : SystemModel) (ticks core : ℕ) (text left rest : List ℕ) (old new : Run) (before : AreCores model ticks core text old left)
    (with : IsRunWith old new core (core_entries new core)) (all : AreAllEntriesOf model ticks core left (core_entries new core) rest) where
  pub other_core : (other : ℕ) → other ≢ core → core_entries new other ≡ core_entries old other
  other_core other differs = ap (λ es. get_or es other []) with.entries_are ∙ get_or-set_other old.entries core other (core_entries new core) [] differs

  not_core : (other : ℕ) → other < core → other ≢ core
  not_core other lt is = omega (arith, lt, is)

  first_items : flat_map (core_items new) (range_with_len 0 (core + 1)) ≡ flat_map (core_items old) (range_with_len 0 core) ++ core_items new core
  first_items = items_more (core_items new) core
      ∙ ap (λ items. items ++ core_items new core)
      (items_same (core_items new) (core_items old) 0 core (λ k lt. ap (λ es. stretch_items 0 (stretches_of es)) (other_core k (not_core k (omega arith)))))

  by_core : (other : ℕ) → other < core + 1 → (P : ℕ → Type 0) → (other < core → P other) → P core → P other
  by_core other lt P less here = elim (cases_lt other core) [
    | inl below ↦ less below
    | inr most ↦ let same : core ≡ other = omega arith in subst P same here
  ]

  pub cores_more : AreCores model ticks (core + 1) text new rest
  cores_more = record {
    filled = λ other lt. by_core other lt (λ k. length (core_entries new k) ≡ ticks)
        (λ below. ap length (other_core other (not_core other below)) ∙ before.filled other below) all.filled;
    of_core = λ other lt. by_core other lt (λ k. All (IsEntryOf (system_of model) k) (core_entries new k))
        (λ below. subst (All (IsEntryOf (system_of model) other)) (sym (other_core other (not_core other below))) (before.of_core other below)) all.read.of_core;
    parts = text_all model (flat_map (core_items old) (range_with_len 0 core)) (core_items new core) text left rest before.parts all.read.parts
        ∙ ap (λ items. text_of model items ++ rest) (sym first_items);
    none_left = λ task from to after within lt above is.
        let split = subst (All (IsAboveRun model task from)) first_items above in
        let last = all_right (IsAboveRun model task from) (flat_map (core_items old) (range_with_len 0 core)) (core_items new core) split in
        elim (cases_lt (core_of model task) core) [
          | inl below ↦
              let none = no_lines model core task from (core_items new core) below (core_items_of model core (core_entries new core) all.read.of_core) last in
              before.none_left task from to after within below (all_left (IsAboveRun model task from) (flat_map (core_items old) (range_with_len 0 core)) (core_items new core) split)
              (all.read.parts ∙ ap (λ items. text_of model items ++ rest) none ∙ is)
          | inr most ↦ all.none_left task from to after within (omega arith) last is
        ];
  }
