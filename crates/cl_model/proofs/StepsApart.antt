-- Two steps of a valid model with one name, or that write one label, are one.
use Rattle.std.proofs.Common.{◌≡◌, ℕ, ◌<◌, Bool, true, false, ◌||◌, inl, inr, ◌⊎◌, List, [], ◌++◌, length, get_or, take, refl, sym, ap, ◌∙◌, arith}
use Rattle.std.specs.Prelude.{Contains}
use Rattle.std.specs.List.{list_any}
use Rattle.std.specs.Cmp.Lexicographic.{bytes_decides}
use Rattle.std.proofs.lemmas.Bool.{cases_order, or_left, or_right, false≢true}
use Rattle.std.proofs.lemmas.List.{get_or-map, get_or-take, length-take-le, take-map}
use Rattle.std.proofs.lemmas.List.Folds.{list_any_at, list_any-append}
use Rattle.std.proofs.Math.ListN.{length-map}
use Rattle.cl_model.specs.{declared.{group.Step.Step, model.SystemModel.SystemModel, task.{RunnableDef.RunnableDef, TaskDef.TaskDef}}, ByNumber.{no_task, no_runnable, task_at, runnable_at}, Groups.{step_named, IsStepOf}, Named.{same_name, has_name, runnable_names, all_runnables}}
use Rattle.cl_model.specs.{Named.labels_written, Validity.IsValid}
use Rattle.cl_model.proofs.{ListFacts.{list_any-map, list_any-flat_map}, NamePlaces.stands_known, NamesApart.runnables_pass, RunnableChecks.label_not_written, RunnableNames.runnables_are_new, StepFacts.{step_stands_in, step_has_name}}

-- a step stands in an earlier task, or earlier in the same one
abbrev IsBefore : Step → Step → Type 0
IsBefore a b = (a.task < b.task) ⊎ ((a.task ≡ b.task) × (a.place < b.place))

-- where neither is before the other, both are one
same_step : (a b : Step) → (IsBefore a b → ⊥) → (IsBefore b a → ⊥) → a ≡ b
same_step a b not_before not_behind =
    let in_task : ℕ → Step = λ task. record { task = task; place = a.place } in
    let in_place : ℕ → Step = λ place. record { task = b.task; place = place } in
    elim (cases_order a.task b.task) [
      | inl task ↦ elim (cases_order a.place b.place) [
        | inl place ↦ ap in_task task ∙ ap in_place place
        | inr other ↦ elim other [
          | inl lt ↦ absurd (not_before (inr (task, lt)))
          | inr lt ↦ absurd (not_behind (inr (sym task, lt)))
        ]
      ]
      | inr other ↦ elim other [
        | inl lt ↦ absurd (not_before (inl lt))
        | inr lt ↦ absurd (not_behind (inl lt))
      ]
    ]

module _ (model : SystemModel) where
  -- whether a runnable before a step passes a test
  abbrev some_before : (RunnableDef → Bool) → Step → Bool
  some_before test step =
      list_any test (all_runnables (take step.task model.tasks)) || list_any test (take step.place (task_at model step.task).runnables)

  -- what an earlier step passes, some runnable before the step does
  passed_before : (test : RunnableDef → Bool) (a b : Step) → IsStepOf model a → IsStepOf model b → IsBefore a b → test (runnable_at model a) ≡ true → some_before test b ≡ true
  passed_before test a b a_is b_is (inl earlier) passes =
      let tasks = take b.task model.tasks in
      let at : get_or tasks a.task no_task ≡ task_at model a.task = get_or-take b.task model.tasks a.task no_task earlier in
      let in_front : a.task < length tasks = omega (arith, earlier, b_is.known, length-take-le b.task model.tasks (omega arith)) in
      let here : list_any test (get_or tasks a.task no_task).runnables ≡ true
      = ap (λ (t : TaskDef). list_any test t.runnables) at ∙ list_any_at test (task_at model a.task).runnables a.place no_runnable a_is.place passes in
      or_left _ _ (list_any-flat_map test (λ (t : TaskDef). t.runnables) tasks ∙ list_any_at (λ (t : TaskDef). list_any test t.runnables) tasks a.task no_task in_front here)
  passed_before test a b a_is b_is (inr same) passes =
      let runnables = (task_at model b.task).runnables in
      let one : get_or runnables a.place no_runnable ≡ runnable_at model a = ap (λ i. get_or (task_at model i).runnables a.place no_runnable) (sym same.0) in
      let in_front : a.place < length (take b.place runnables) = omega (arith, same.1, b_is.place, length-take-le b.place runnables (omega arith)) in
      or_right _ _ (list_any_at test (take b.place runnables) a.place no_runnable in_front (ap test (get_or-take b.place runnables a.place no_runnable same.1 ∙ one) ∙ passes))

module _ (model : SystemModel) (valid : IsValid model) where
  -- no runnable before a step has its name
  name_is_new : (step : Step) → IsStepOf model step → some_before model (λ runnable. same_name (runnable_at model step).name runnable.name) step ≡ false
  name_is_new step is =
      let name = (runnable_at model step).name in
      let f : RunnableDef → List ℕ = λ runnable. runnable.name in
      let runnables = (task_at model step.task).runnables in
      let earlier = runnable_names (all_runnables (take step.task model.tasks)) in
      let own : get_or (runnable_names runnables) step.place [] ≡ name = get_or-map f runnables step.place no_runnable [] is.place in
      let new = runnables_are_new model.tasks (runnables_pass model valid) step.task no_task is.known step.place (omega (arith, is.place, length-map runnables f)) in
      ap (λ b. b || list_any (λ r. same_name name (f r)) (take step.place runnables)) (sym (list_any-map (same_name name) f (all_runnables (take step.task model.tasks))))
      ∙ ap (λ b. has_name name earlier || b) (sym (list_any-map (same_name name) f (take step.place runnables)))
      ∙ ap (λ names. has_name name earlier || has_name name names) (sym (take-map f step.place runnables))
      ∙ sym (list_any-append (same_name name) earlier (take step.place (runnable_names runnables)))
      ∙ ap (λ n. has_name n (earlier ++ take step.place (runnable_names runnables))) (sym own) ∙ new

  -- runnables with one name are one
  pub one_of_name : (a b : Step) → IsStepOf model a → IsStepOf model b → (runnable_at model a).name ≡ (runnable_at model b).name → a ≡ b
  one_of_name a b a_is b_is same =
      same_step a b
      (λ before. false≢true (sym (name_is_new b b_is) ∙ passed_before model _ a b a_is b_is before ((bytes_decides _ _).1 (sym same))))
      (λ behind. false≢true (sym (name_is_new a a_is) ∙ passed_before model _ b a b_is a_is behind ((bytes_decides _ _).1 same)))

  -- the name of a runnable stands for its step
  pub own_step : (step : Step) → IsStepOf model step → step_named model (runnable_at model step).name ≡ step
  own_step step is =
      let name = (runnable_at model step).name in
      let known : has_name name (runnable_names (all_runnables model.tasks)) ≡ true = name_known step is in
      one_of_name (step_named model name) step (step_stands_in model name known) is (step_has_name model name known)
    where
      name_known : (step : Step) → IsStepOf model step → has_name (runnable_at model step).name (runnable_names (all_runnables model.tasks)) ≡ true
      name_known step is =
          let f : RunnableDef → List ℕ = λ runnable. runnable.name in
          let test : RunnableDef → Bool = λ runnable. same_name (runnable_at model step).name runnable.name in
          let here : list_any test (task_at model step.task).runnables ≡ true
          = list_any_at test (task_at model step.task).runnables step.place no_runnable is.place ((bytes_decides (runnable_at model step).name (runnable_at model step).name).1 refl) in
          list_any-map (same_name (runnable_at model step).name) f (all_runnables model.tasks) ∙ list_any-flat_map test (λ (t : TaskDef). t.runnables) model.tasks
          ∙ list_any_at (λ (t : TaskDef). list_any test t.runnables) model.tasks step.task no_task is.known here

  -- no runnable before a step writes a label that it writes
  label_is_new : (step : Step) → IsStepOf model step → (label : List ℕ) → Contains (runnable_at model step).writes label → some_before model (λ runnable. has_name label runnable.writes) step ≡ false
  label_is_new step is label writes =
      let earlier = all_runnables (take step.task model.tasks) in
      let before = take step.place (task_at model step.task).runnables in
      ap (λ b. b || list_any (λ (r : RunnableDef). has_name label r.writes) before) (sym (list_any-flat_map (same_name label) (λ (r : RunnableDef). r.writes) earlier))
      ∙ ap (λ b. has_name label (labels_written earlier) || b) (sym (list_any-flat_map (same_name label) (λ (r : RunnableDef). r.writes) before))
      ∙ sym (list_any-append (same_name label) (labels_written earlier) (labels_written before)) ∙ label_not_written model valid step is label writes

  -- a label is written by one runnable
  pub one_writer : (a b : Step) → IsStepOf model a → IsStepOf model b → (label : List ℕ) → Contains (runnable_at model a).writes label → Contains (runnable_at model b).writes label → a ≡ b
  one_writer a b a_is b_is label by_a by_b =
      same_step a b
      (λ before. false≢true (sym (label_is_new b b_is label by_b) ∙ passed_before model (λ r. has_name label r.writes) a b a_is b_is before (stands_known label _ by_a)))
      (λ behind. false≢true (sym (label_is_new a a_is label by_a) ∙ passed_before model (λ r. has_name label r.writes) b a b_is a_is behind (stands_known label _ by_b)))
