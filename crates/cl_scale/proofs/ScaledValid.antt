-- A scaled model of a valid one is valid where it is in range: it differs from it in greatest times alone, and these are
-- no less than the least ones.
use Rattle.std.proofs.Common.{◌≡◌, ℕ, List, get_or, ap, ◌∙◌, arith}
use Rattle.std.specs.Prelude.{All}
use Rattle.std.proofs.lemmas.List.Elements.{All-map}
use Rattle.std.proofs.lemmas.Simd.{map-map}
use Rattle.cl_model.specs.{declared.{model.SystemModel.SystemModel, task.{RunnableDef.RunnableDef, TaskDef.TaskDef}}, Ranges.IsInRange, Validity.IsValid}
use Rattle.cl_model.proofs.ListFacts.{maps_agree}
use Rattle.cl_scale.specs.Scaled.{scaled_runnable, scaled_task, scaled}
use Rattle.cl_scale.proofs.BareModels.{bare_runnable, bare_task, bare_model, IsOrdered, AreOrdered, valid_but_times}

-- scaled times are in order
pub scaled_ordered : (percent : ℕ) (task : TaskDef) → AreOrdered (scaled_task percent task)
scaled_ordered percent task = All-map IsOrdered (scaled_runnable percent) task.runnables (λ k d lt. omega arith)

pub scaled_bare : (percent : ℕ) (task : TaskDef) → bare_task (scaled_task percent task) ≡ bare_task task
scaled_bare percent task = ap (λ (runnables : List RunnableDef). record task { runnables = runnables }) (map-map bare_runnable (scaled_runnable percent) task.runnables)

module _ (model : SystemModel) (percent : ℕ) where
  pub scaled_alike : bare_model (scaled model percent) ≡ bare_model model
  unfolding bare_model scaled
  scaled_alike = ap (λ (tasks : List TaskDef). record model { tasks = tasks })
      (map-map bare_task (scaled_task percent) model.tasks
      ∙ maps_agree (λ task. bare_task (scaled_task percent task)) bare_task (scaled_bare percent) model.tasks)

  all_ordered : All AreOrdered (scaled model percent).tasks
  unfolding scaled
  all_ordered = All-map AreOrdered (scaled_task percent) model.tasks (λ k d lt. scaled_ordered percent (get_or model.tasks k d))

  pub scaled_valid : IsValid model → IsInRange (scaled model percent) → IsValid (scaled model percent)
  scaled_valid = valid_but_times model (scaled model percent) scaled_alike all_ordered
