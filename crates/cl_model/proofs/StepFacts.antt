-- The steps of the runnables of a model, in order and by name.
use Rattle.std.proofs.Common.{◌≡◌, ℕ, zero, suc, ◌+◌, ◌-◌, ◌<◌, true, false, cond, List, [], ◌∷◌, ◌++◌, length, get_or, take, refl, sym, ap, ◌∙◌, append_assoc, arith, nat_lt}
use Rattle.std.specs.Prelude.{unwrap_or, slice_get, Some}
use Rattle.std.specs.Option.{option_and_then}
use Rattle.std.proofs.lemmas.Option.{slice_get-get_or}
use Rattle.std.proofs.lemmas.Bool.{ltb-false, ltb-true}
use Rattle.std.proofs.lemmas.List.{append-nil, length-append, length-map, get_or-map, get_or_append_left, get_or-append_right, get_or_default}
use Rattle.std.proofs.lemmas.List.FromFn.{length-map-range_with_len, get_or-map-range_with_len, map-range_with_len_more}
use Rattle.cl_model.specs.{declared.{group.Step.Step, groups.StepTable.StepTable, model.SystemModel.SystemModel, task.{RunnableDef.RunnableDef, TaskDef.TaskDef}}, Groups.{step_from, step_named, no_step, IsStepOf}, Named.{has_name, index_of, runnable_names, all_runnables, runnable_named}}
use Rattle.cl_model.specs.{ByNumber.{no_task, no_runnable, task_at, runnable_at}, Inner.StepTable.{steps_in, steps_from, step_in, AreStepsOf}}
use Rattle.cl_model.proofs.NamePlaces.{place_within, known_place, known_named, found_below}

-- ---- the steps of all runnables

-- one more step of a task
pub steps_in_more : (before : List Step) (task count : ℕ) (old new : List Step) → old ≡ before ++ steps_in task count → new ≡ old ++ record { task = task; place = count } ∷ [] → new ≡ before ++ steps_in task (count + 1)
steps_in_more before task count old new so_far pushed =
    let f : ℕ → Step = λ place. record { task = task; place = place } in
    pushed ∙ ap (λ o. o ++ f count ∷ []) so_far ∙ append_assoc before (steps_in task count) (f count ∷ [])
    ∙ ap (λ l. before ++ l) (sym (map-range_with_len_more f 0 count count (omega arith)))

-- the steps of one more task
steps_more : (tasks : List TaskDef) (i j : ℕ) (d : TaskDef) → i < length tasks
    → steps_from j (take (suc i) tasks) ≡ steps_from j (take i tasks) ++ steps_in (j + i) (length (get_or tasks i d).runnables)
steps_more [] i j d lt = absurd (omega arith)
steps_more (task ∷ tasks) zero j d lt =
    let same : j ≡ j + 0 = omega arith in
    append-nil (steps_in j (length task.runnables)) ∙ ap (λ n. steps_in n (length task.runnables)) same
steps_more (task ∷ tasks) (suc i) j d lt =
    let same : (j + 1) + i ≡ j + suc i = omega arith in
    ap (λ l. steps_in j (length task.runnables) ++ l) (steps_more tasks i (j + 1) d (omega arith))
    ∙ sym (append_assoc (steps_in j (length task.runnables)) (steps_from (j + 1) (take i tasks)) (steps_in ((j + 1) + i) (length (get_or tasks i d).runnables)))
    ∙ ap (λ n. (steps_in j (length task.runnables) ++ steps_from (j + 1) (take i tasks)) ++ steps_in n (length (get_or tasks i d).runnables)) same

pub steps_of_more : (tasks : List TaskDef) (i : ℕ) (task : TaskDef) (old new : List Step) → i < length tasks → task ≡ get_or tasks i task
    → old ≡ steps_from 0 (take i tasks) → new ≡ old ++ steps_in i (length task.runnables) → new ≡ steps_from 0 (take (i + 1) tasks)
steps_of_more tasks i task old new lt is so_far pushed =
    let zero-i : 0 + i ≡ i = omega arith in
    let more : suc i ≡ i + 1 = omega arith in
    pushed ∙ ap (λ o. o ++ steps_in i (length task.runnables)) so_far ∙ ap (λ t. steps_from 0 (take i tasks) ++ steps_in i (length t.runnables)) is
    ∙ ap (λ n. steps_from 0 (take i tasks) ++ steps_in n (length (get_or tasks i task).runnables)) (sym zero-i)
    ∙ sym (steps_more tasks i 0 task lt) ∙ ap (λ n. steps_from 0 (take n tasks)) more

pub length-steps_from : (tasks : List TaskDef) (j : ℕ) → length (steps_from j tasks) ≡ length (all_runnables tasks)
length-steps_from [] j = refl
length-steps_from (task ∷ tasks) j =
    omega (
      arith,
      length-append (steps_in j (length task.runnables)) (steps_from (j + 1) tasks),
      length-append task.runnables (all_runnables tasks),
      length-steps_from tasks (j + 1),
      length-map-range_with_len {X = Step} (λ place. record { task = j; place = place }) 0 (length task.runnables),
    )

-- the step of a runnable stands at its number
pub step_stands : (tasks : List TaskDef) (n j : ℕ) (d : Step) → n < length (all_runnables tasks) → get_or (steps_from j tasks) n d ≡ step_from j tasks n
step_stands [] n j d lt = absurd (omega arith)
step_stands (task ∷ tasks) n j d lt =
    let f : ℕ → Step = λ place. record { task = j; place = place } in
    let count = length-map-range_with_len {X = Step} f 0 (length task.runnables) in
    elim (nat_lt n (length task.runnables)) as (λ b. nat_lt n (length task.runnables) ≡ b
    → get_or (steps_in j (length task.runnables) ++ steps_from (j + 1) tasks) n d ≡ cond b (f n) (step_from (j + 1) tasks (n - length task.runnables))) [
      | true ↦ λ e.
          let within : n < length task.runnables = ltb-true n (length task.runnables) e in
          get_or_append_left (steps_in j (length task.runnables)) (steps_from (j + 1) tasks) d n (omega arith)
          ∙ get_or-map-range_with_len f 0 (length task.runnables) n n d within (omega arith)
      | false ↦ λ e.
          let past = ltb-false n (length task.runnables) e in
          get_or-append_right (steps_in j (length task.runnables)) (steps_from (j + 1) tasks) (length task.runnables) n d count past
          ∙ step_stands tasks (n - length task.runnables) (j + 1) d (omega (arith, length-append task.runnables (all_runnables tasks)))
    ] refl

-- ---- by name

-- a table of steps has as many names
pub table_paired : (tasks : List TaskDef) (table : StepTable) → AreStepsOf tasks table → length table.steps.items ≡ length table.names
table_paired tasks table kept =
    let f : RunnableDef → List ℕ = λ runnable. runnable.name in
    ap length kept.steps ∙ length-steps_from tasks 0 ∙ sym (length-map (all_runnables tasks) f) ∙ sym (ap length kept.names)

known_within : (tasks : List TaskDef) (name : List ℕ) → has_name name (runnable_names (all_runnables tasks)) ≡ true
    → unwrap_or (index_of name (runnable_names (all_runnables tasks))) 0 < length (all_runnables tasks)
known_within tasks name known =
    let f : RunnableDef → List ℕ = λ runnable. runnable.name in
    omega (arith, place_within name (runnable_names (all_runnables tasks)) known, length-map (all_runnables tasks) f)

-- a table of steps has the step that a name stands for
pub step_in_is : (model : SystemModel) (table : StepTable) (name : List ℕ) → AreStepsOf model.tasks table → has_name name (runnable_names (all_runnables model.tasks)) ≡ true
    → step_in table name ≡ step_named model name
step_in_is model table name kept known =
    ap (λ s. get_or s (unwrap_or (index_of name table.names) 0) no_step) kept.steps
    ∙ ap (λ names. get_or (steps_from 0 model.tasks) (unwrap_or (index_of name names) 0) no_step) kept.names
    ∙ step_stands model.tasks (unwrap_or (index_of name (runnable_names (all_runnables model.tasks))) 0) 0 no_step (known_within model.tasks name known)

-- ---- the step that a name stands for

-- step n of tasks of which the first has the number j: the task k of them, and a place in it, where runnable n stands
record Stands (tasks : List TaskDef) (n j : ℕ) (step : Step) : Type 0 where
  k : ℕ
  task : step.task ≡ j + k
  known : k < length tasks
  place : step.place < length (get_or tasks k no_task).runnables
  is : (d : RunnableDef) → get_or (all_runnables tasks) n d ≡ get_or (get_or tasks k no_task).runnables step.place d

stands : (tasks : List TaskDef) (n j : ℕ) → n < length (all_runnables tasks) → Stands tasks n j (step_from j tasks n)
stands [] n j lt = absurd (omega arith)
stands (task ∷ tasks) n j lt =
    elim (nat_lt n (length task.runnables)) as (λ b. nat_lt n (length task.runnables) ≡ b
    → Stands (task ∷ tasks) n j (cond b (record { task = j; place = n }) (step_from (j + 1) tasks (n - length task.runnables)))) [
      | true ↦ λ e.
          let within : n < length task.runnables = ltb-true n (length task.runnables) e in
          record { k = 0; task = omega arith; known = omega arith; place = within; is = λ d. get_or_append_left task.runnables (all_runnables tasks) d n within }
      | false ↦ λ e.
          let past = ltb-false n (length task.runnables) e in
          let rest = stands tasks (n - length task.runnables) (j + 1) (omega (arith, length-append task.runnables (all_runnables tasks))) in
          record {
            k = suc rest.k;
            task = omega (arith, rest.task);
            known = omega (arith, rest.known);
            place = rest.place;
            is = λ d. get_or-append_right task.runnables (all_runnables tasks) (length task.runnables) n d refl past ∙ rest.is d;
          }
    ] refl

-- a known name stands for a runnable of a task
pub step_is_known : (model : SystemModel) (name : List ℕ) → has_name name (runnable_names (all_runnables model.tasks)) ≡ true
    → ((step_named model name).task < length model.tasks) × ((step_named model name).place < length (task_at model (step_named model name).task).runnables)
step_is_known model name known =
    let s = stands model.tasks (unwrap_or (index_of name (runnable_names (all_runnables model.tasks))) 0) 0 (known_within model.tasks name known) in
    let same : (step_named model name).task ≡ s.k = omega (arith, s.task) in
    (omega (arith, same, s.known), rw same s.place)

pub step_stands_in : (model : SystemModel) (name : List ℕ) → has_name name (runnable_names (all_runnables model.tasks)) ≡ true → IsStepOf model (step_named model name)
step_stands_in model name known = let (task, place) = step_is_known model name known in record { known = task; place = place }

-- the runnable that a known name is the number of
pub numbered_runnable : (model : SystemModel) (name : List ℕ) → has_name name (runnable_names (all_runnables model.tasks)) ≡ true
    → get_or (all_runnables model.tasks) (unwrap_or (index_of name (runnable_names (all_runnables model.tasks))) 0) no_runnable ≡ runnable_at model (step_named model name)
numbered_runnable model name known =
    let s = stands model.tasks (unwrap_or (index_of name (runnable_names (all_runnables model.tasks))) 0) 0 (known_within model.tasks name known) in
    let same : (step_named model name).task ≡ s.k = omega (arith, s.task) in
    s.is no_runnable ∙ ap (λ k. get_or (get_or model.tasks k no_task).runnables (step_named model name).place no_runnable) (sym same)

-- it has the name
pub step_has_name : (model : SystemModel) (name : List ℕ) → has_name name (runnable_names (all_runnables model.tasks)) ≡ true → (runnable_at model (step_named model name)).name ≡ name
step_has_name model name known =
    let n = unwrap_or (index_of name (runnable_names (all_runnables model.tasks))) 0 in
    let f : RunnableDef → List ℕ = λ runnable. runnable.name in
    ap f (sym (numbered_runnable model name known)) ∙ sym (get_or-map f (all_runnables model.tasks) n no_runnable [] (known_within model.tasks name known))
    ∙ known_named name (runnable_names (all_runnables model.tasks)) known

-- and is what is found by it
pub runnable_found : (model : SystemModel) (name : List ℕ) → has_name name (runnable_names (all_runnables model.tasks)) ≡ true
    → runnable_named model name ≡ Some (runnable_at model (step_named model name))
runnable_found model name known =
    let n = unwrap_or (index_of name (runnable_names (all_runnables model.tasks))) 0 in
    ap (option_and_then (slice_get (all_runnables model.tasks))) (known_place name (runnable_names (all_runnables model.tasks)) known)
    ∙ slice_get-get_or (all_runnables model.tasks) n no_runnable (known_within model.tasks name known) ∙ ap (λ r. Some r) (numbered_runnable model name known)

-- ---- looked up in a table

module _ (model : SystemModel) (table : StepTable) (kept : AreStepsOf model.tasks table) (name : List ℕ) (number : ℕ) (known : has_name name table.names ≡ true) (at : index_of name table.names ≡ Some number) where
  pub looked_up_within : number < length table.steps.items
  looked_up_within = omega (arith, found_below name table.names number at, table_paired model.tasks table kept)

  pub looked_up_is : (step : Step) → step ≡ get_or table.steps.items number step → step ≡ step_named model name
  looked_up_is step is =
      is ∙ get_or_default table.steps.items number step no_step looked_up_within
      ∙ ap (λ n. get_or table.steps.items n no_step) (sym (ap (λ o. unwrap_or o 0) at))
      ∙ step_in_is model table name kept (rw kept.names at known)

  pub looked_up_stands : (step : Step) → step ≡ get_or table.steps.items number step → IsStepOf model step
  looked_up_stands step is = rw (looked_up_is step is) (step_stands_in model name (rw kept.names at known))
