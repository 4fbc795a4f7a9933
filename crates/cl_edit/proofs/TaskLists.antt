-- Lists of tasks of which one is removed: how many are left, and what passes a test among them.
use Rattle.std.proofs.Common.{◌≡◌, ℕ, zero, suc, ◌+◌, ◌<◌, ◌≤◌, Bool, true, false, cond, ◌&&◌, ◌||◌, List, [], ◌∷◌, length, get_or, take, refl, sym, ap, ◌∙◌, arith}
use Rattle.std.specs.Prelude.{filter}
use Rattle.std.specs.List.{list_any, remove}
use Rattle.std.specs.Cmp.Lexicographic.{bytes_decides}
use Rattle.std.proofs.lemmas.Bool.{or_parts}
use Rattle.std.proofs.lemmas.List.{length-append, take_all}
use Rattle.std.proofs.lemmas.List.Filters.{length-filter_more}
use Rattle.cl_model.specs.{declared.{limits.TheConstants.MOST_TASKS_OF_CORE, model.SystemModel.SystemModel, task.{RunnableDef.RunnableDef, TaskDef.TaskDef}}, ByNumber.{no_task, task_at}, Named.{same_name, has_name, runnable_names, all_runnables, labels_written, tasks_on}, Validity.IsValid}
use Rattle.cl_model.proofs.{ListFacts.{list_any-map, list_any-flat_map}, ValidTasks.room_left}
use Rattle.cl_edit.proofs.NameChecks.{any_removed}

-- ---- tests

-- some element that passes one test passes another
pub list_any-filter : {X : Type 0} (p q : X → Bool) (xs : List X) → list_any p (filter q xs) ≡ list_any (λ x. q x && p x) xs
list_any-filter p q [] = refl
list_any-filter p q (x ∷ xs) =
    elim (q x) as (λ b. list_any p (cond b (x ∷ filter q xs) (filter q xs)) ≡ ((b && p x) || list_any (λ y. q y && p y) xs)) [
      | true ↦ ap (λ b. p x || b) (list_any-filter p q xs)
      | false ↦ list_any-filter p q xs
    ]

-- a test of the runnables of tasks is one of the tasks
pub runnable_among : (test : RunnableDef → Bool) (tasks : List TaskDef) → list_any test (all_runnables tasks) ≡ list_any (λ (task : TaskDef). list_any test task.runnables) tasks
runnable_among test tasks = list_any-flat_map test (λ (task : TaskDef). task.runnables) tasks

pub name_among : (name : List ℕ) (tasks : List TaskDef)
    → has_name name (runnable_names (all_runnables tasks)) ≡ list_any (λ (task : TaskDef). has_name name (runnable_names task.runnables)) tasks
name_among name tasks =
    list_any-map (same_name name) (λ (r : RunnableDef). r.name) (all_runnables tasks) ∙ runnable_among (λ (r : RunnableDef). same_name name r.name) tasks
    ∙ any_alike _ _ (λ (task : TaskDef). sym (list_any-map (same_name name) (λ (r : RunnableDef). r.name) task.runnables)) tasks
  where
    any_alike : {X : Type 0} (p q : X → Bool) → ((x : X) → p x ≡ q x) → (xs : List X) → list_any p xs ≡ list_any q xs
    any_alike p q same [] = refl
    any_alike p q same (x ∷ xs) = ap (λ b. b || list_any p xs) (same x) ∙ ap (λ b. q x || b) (any_alike p q same xs)

pub written_among : (label : List ℕ) (tasks : List TaskDef)
    → has_name label (labels_written (all_runnables tasks)) ≡ list_any (λ (task : TaskDef). list_any (λ (r : RunnableDef). has_name label r.writes) task.runnables) tasks
written_among label tasks =
    list_any-flat_map (same_name label) (λ (r : RunnableDef). r.writes) (all_runnables tasks) ∙ runnable_among (λ (r : RunnableDef). has_name label r.writes) tasks

-- what no item passes, none that is left does
pub none_left : {X : Type 0} (p : X → Bool) (xs : List X) (i : ℕ) (d : X) → i < length xs → list_any p xs ≡ false → list_any p (remove xs i) ≡ false
none_left p xs i d lt none = (or_parts (p (get_or xs i d)) (list_any p (remove xs i)) (sym (any_removed p xs i d lt) ∙ none)).1

-- ---- how many

pub fewer_taken : (tasks : List TaskDef) (n : ℕ) → length (all_runnables (take n tasks)) ≤ length (all_runnables tasks)
fewer_taken tasks zero = omega arith
fewer_taken [] (suc n) = omega arith
fewer_taken (task ∷ tasks) (suc n) =
    omega (arith, length-append task.runnables (all_runnables (take n tasks)), length-append task.runnables (all_runnables tasks), fewer_taken tasks n)

pub fewer_left : (tasks : List TaskDef) (i : ℕ) → i < length tasks → length (all_runnables (remove tasks i)) ≤ length (all_runnables tasks)
fewer_left [] i lt = absurd (omega arith)
fewer_left (task ∷ tasks) zero lt = omega (arith, length-append task.runnables (all_runnables tasks))
fewer_left (task ∷ tasks) (suc i) lt =
    omega (arith, length-append task.runnables (all_runnables (remove tasks i)), length-append task.runnables (all_runnables tasks), fewer_left tasks i (omega arith))

pub filter_left : {X : Type 0} (p : X → Bool) (xs : List X) (i : ℕ) → i < length xs → length (filter p (remove xs i)) ≤ length (filter p xs)
filter_left p [] i lt = absurd (omega arith)
filter_left p (x ∷ xs) zero lt =
    elim (p x) as (λ b. length (filter p xs) ≤ length (cond b (x ∷ filter p xs) (filter p xs))) [ true ↦ omega arith | false ↦ omega arith ]
filter_left p (x ∷ xs) (suc i) lt =
    let rest = filter_left p xs i (omega arith) in
    elim (p x) as (λ b. length (cond b (x ∷ filter p (remove xs i)) (filter p (remove xs i))) ≤ length (cond b (x ∷ filter p xs) (filter p xs))) [ true ↦ omega (arith, rest) | false ↦ rest ]

-- in front of an item that passes there are fewer that do
pub filter_front : {X : Type 0} (p : X → Bool) (xs : List X) (k : ℕ) (d : X) → k < length xs → p (get_or xs k d) ≡ true → length (filter p (take k xs)) < length (filter p xs)
filter_front p [] k d lt passes = absurd (omega arith)
filter_front p (x ∷ xs) zero d lt passes =
    let more : length (filter p (x ∷ xs)) ≡ suc (length (filter p xs)) = ap (λ b. length (cond b (x ∷ filter p xs) (filter p xs))) passes in
    omega (arith, more)
filter_front p (x ∷ xs) (suc k) d lt passes =
    let rest = filter_front p xs k d (omega arith) passes in
    elim (p x) as (λ b. length (cond b (x ∷ filter p (take k xs)) (filter p (take k xs))) < length (cond b (x ∷ filter p xs) (filter p xs))) [ true ↦ omega (arith, rest) | false ↦ rest ]

-- a core of a valid model has few tasks
module _ (model : SystemModel) (valid : IsValid model) (core : List ℕ) where
  few_below : (n : ℕ) → n ≤ length model.tasks → length (tasks_on core (take n model.tasks)) ≤ MOST_TASKS_OF_CORE
  few_below zero le = omega arith
  few_below (suc n) le =
      let known : n < length model.tasks = omega arith in
      let before = few_below n (omega arith) in
      let on_core : TaskDef → Bool = λ task. same_name core task.core in
      let next : suc n ≡ n + 1 = omega arith in
      let count : length (tasks_on core (take (suc n) model.tasks)) ≡ length (tasks_on core (take n model.tasks)) + cond (same_name core (task_at model n).core) 1 0
      = ap (λ m. length (tasks_on core (take m model.tasks))) next ∙ length-filter_more on_core model.tasks n no_task known in
      elim (same_name core (task_at model n).core) as (λ b. same_name core (task_at model n).core ≡ b
      → length (tasks_on core (take (suc n) model.tasks)) ≡ length (tasks_on core (take n model.tasks)) + cond b 1 0
      → length (tasks_on core (take (suc n) model.tasks)) ≤ MOST_TASKS_OF_CORE) [
        | true ↦ λ e is.
            let room : length (tasks_on core (take n model.tasks)) ≡ MOST_TASKS_OF_CORE → ⊥
            = λ full. room_left model valid n known (ap (λ c. length (tasks_on c (take n model.tasks))) (sym ((bytes_decides core (task_at model n).core).0 e)) ∙ full) in
            omega (arith, before, is, room)
        | false ↦ λ e is. omega (arith, before, is)
      ] refl count

  pub few_on_core : length (tasks_on core model.tasks) ≤ MOST_TASKS_OF_CORE
  few_on_core =
      let all = ap (λ tasks. length (tasks_on core tasks)) (take_all (length model.tasks) model.tasks (omega arith)) in
      omega (arith, all, few_below (length model.tasks) (omega arith))
