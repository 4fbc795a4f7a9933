-- Names that are looked up in a model, and what they stand for.
use Rattle.std.proofs.Common.{◌≡◌, ℕ, ◌<◌, true, false, List, length, get_or, refl, sym, ap, ◌∙◌}
use Rattle.std.specs.Prelude.{Option, Some, None, is_some, slice_get}
use Rattle.std.specs.Option.{option_and_then}
use Rattle.cl_model.specs.{declared.{group.Step.Step, model.SystemModel.SystemModel, task.{RunnableDef.RunnableDef, TaskDef.TaskDef}}, ByNumber.{no_runnable, task_at, runnable_at}, Groups.step_named, Named.{has_name, index_of, runnable_names, runnable_named, all_runnables}}
use Rattle.cl_model.proofs.StepFacts.{runnable_found}
use Rattle.std.proofs.lemmas.List.{get_or_default}
use Rattle.cl_edit.specs.Edited.{all_names}
use Rattle.cl_edit.proofs.FoundFacts.{missing_unknown, found_known}

-- a name has a place where it is known
pub place_known : (name : List ℕ) (names : List (List ℕ)) → is_some (index_of name names) ≡ has_name name names
place_known name names = by (index_of name names) refl
  where
    by : (place : Option ℕ) → index_of name names ≡ place → is_some (index_of name names) ≡ has_name name names
    by None is = ap is_some is ∙ sym (missing_unknown name names is)
    by (Some k) is = ap is_some is ∙ sym (found_known name names k is)

-- ---- the runnable of a name

pub unknown_runnable : (model : SystemModel) (name : List ℕ) → has_name name (runnable_names (all_runnables model.tasks)) ≡ false → runnable_named model name ≡ None
unknown_runnable model name unknown = by (index_of name (runnable_names (all_runnables model.tasks))) refl
  where
    by : (place : Option ℕ) → index_of name (runnable_names (all_runnables model.tasks)) ≡ place → runnable_named model name ≡ None
    by None is = ap (option_and_then (slice_get (all_runnables model.tasks))) is
    by (Some k) is = absurd (let known = found_known name (runnable_names (all_runnables model.tasks)) k is in cc)

pub runnable_is : (model : SystemModel) (name : List ℕ) (step : Step) (task : TaskDef) (runnables : List RunnableDef) (runnable : RunnableDef)
    → true ≡ has_name name (all_names model) → step ≡ step_named model name → step.place < length runnables → task ≡ task_at model step.task → runnables ≡ task.runnables → runnable ≡ get_or runnables step.place runnable
    → Some runnable ≡ runnable_named model name
runnable_is model name step task runnables runnable known is within of_task in_task at =
    let own : runnable ≡ runnable_at model step
    = at ∙ get_or_default runnables step.place runnable no_runnable within ∙ ap (λ (rs : List RunnableDef). get_or rs step.place no_runnable) (in_task ∙ ap (λ (t : TaskDef). t.runnables) of_task) in
    ap Some own ∙ ap (λ (s : Step). Some (runnable_at model s)) is ∙ sym (runnable_found model name (sym known))
