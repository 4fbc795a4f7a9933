-- Tasks by their names and numbers.
use Rattle.std.proofs.Common.{◌≡◌, ℕ, ◌+◌, ◌<◌, ◌≤◌, Bool, cond, nat_lt, not, Option, Some, None, List, [], ◌∷◌, length, map, inl, inr, refl, sym, ap, ◌∙◌, subst}
use Rattle.std.specs.Prelude.{IfSome}
use Rattle.std.specs.List.{slice_get, position, position_or_len}
use Rattle.std.proofs.lemmas.List.Quantifiers.{position-Some}
use Rattle.std.proofs.lemmas.List.{get_or_past, length-map}
use Rattle.std.proofs.lemmas.Option.{slice_get_cases}
use Rattle.cl_model.specs.{declared.{model.SystemModel.SystemModel, task.TaskDef.TaskDef}, ByNumber.{no_task, task_at, task_named}, Named.{same_name, task_names}}
use Rattle.cl_traces.specs.declared.run_line.RunLine.{RunLine}

-- ---- the task of a name

first_of_mapped : {X Y : Type 0} (f : X → Y) (test : Y → Bool) (xs : List X)
    → position_or_len (λ x. test (f x)) xs ≡ position_or_len test (map f xs)
first_of_mapped f test [] = refl
first_of_mapped f test (x ∷ xs) = ap (λ n. cond (not (test (f x))) (1 + n) 0) (first_of_mapped f test xs)

pub position_named : (model : SystemModel) (word : List ℕ)
    → position (λ (task : TaskDef). same_name word task.name) model.tasks ≡ task_named model word
position_named model word =
    let name : TaskDef → List ℕ = λ task. task.name in
    let first = first_of_mapped name (same_name word) model.tasks in
    ap (λ n. cond (nat_lt n (length model.tasks)) (Some n) None) first
    ∙ ap (λ size. cond (nat_lt (position_or_len (same_name word) (task_names model)) size) (Some (position_or_len (same_name word) (task_names model))) None)
    (sym (length-map model.tasks name))

-- the same, by another list of these tasks
pub named_by : (model : SystemModel) (word : List ℕ) (tasks : List TaskDef) → tasks ≡ model.tasks → (place : Option ℕ)
    → place ≡ position (λ (task : TaskDef). same_name word task.name) tasks → place ≡ task_named model word
named_by model word tasks same place is = is ∙ ap (position (λ (task : TaskDef). same_name word task.name)) same ∙ position_named model word

pub place_within : (test : TaskDef → Bool) (tasks : List TaskDef) (place : Option ℕ) → place ≡ position test tasks
    → IfSome place (λ found. found < length tasks)
place_within test tasks (Some found) is = (position-Some test tasks found no_task (sym is)).0
place_within test tasks None is = tt

-- ---- the task of a run line

pub line_within : (n : ℕ) (task : Option ℕ) (line : Option RunLine) → IfSome task (λ found. found < n)
    → IfSome line (λ run. task ≡ Some run.task) → IfSome line (λ run. run.task < n)
line_within n task (Some run) within same = subst (λ (t : Option ℕ). IfSome t (λ found. found < n)) same within
line_within n task None within same = tt

-- ---- the name of a task past the last one

past_the_last : {X : Type 0} (xs : List X) (i : ℕ) → None ≡ slice_get xs i → length xs ≤ i
past_the_last xs i none = elim (slice_get_cases xs i).1 [
  | inl found ↦ absurd (some_is_none found.0 (sym found.2 ∙ sym none))
  | inr past ↦ past.0
]
  where
    some_is_none : {X : Type 0} (x : X) → Some x ≡ None → ⊥
    some_is_none x is = cc

pub no_name : (model : SystemModel) (i : ℕ) → None ≡ slice_get model.tasks i → [] ≡ (task_at model i).name
unfolding no_task
no_name model i none = sym (ap (λ (task : TaskDef). task.name) (get_or_past model.tasks i no_task (past_the_last model.tasks i none)))
