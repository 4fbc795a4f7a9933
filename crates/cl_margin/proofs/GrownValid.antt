-- A valid model whose times have grown is valid where it is in range: it differs from the model in greatest times alone.
-- At 100 percent it is the model itself.
use Rattle.std.proofs.Common.{◌≡◌, ℕ, ◌<◌, ◌≤◌, Bool, true, false, cond, List, length, get_or, map, refl, sym, ap, ◌∙◌, arith}
use Rattle.std.specs.Prelude.{All, ◌==◌}
use Rattle.std.specs.List.{range_with_len}
use Rattle.std.proofs.lemmas.List.{same_lists, length-map, get_or-map, get_or_default}
use Rattle.std.proofs.lemmas.List.Elements.{All-map}
use Rattle.std.proofs.lemmas.List.FromFn.{length-map-range_with_len, get_or-map-range_with_len}
use Rattle.std.proofs.lemmas.Simd.{map-map}
use Rattle.cl_model.specs.{declared.{model.SystemModel.SystemModel, task.{RunnableDef.RunnableDef, TaskDef.TaskDef}}, ByNumber.{no_task, task_at}, Ranges.IsInRange, Validity.IsValid}
use Rattle.cl_model.proofs.{ListFacts.maps_agree, ValidTasks.times_ordered}
use Rattle.cl_resp.proofs.Filters.{by_number}
use Rattle.cl_scale.specs.Scaled.{scaled_time, scaled_runnable, scaled_task}
use Rattle.cl_scale.proofs.{BareModels.{bare_task, bare_model, IsOrdered, AreOrdered, valid_but_times}, ScaledValid.{scaled_ordered, scaled_bare}}
use Rattle.cl_margin.specs.{declared.whose.Whose.{Whose, TheVariants.{EveryTask, OneTask}}, Grown.{percent_of, grown_task, grown_by, grown}}

-- ---- a task at 100 percent

-- at 100 percent a time in order is as it stands
whole_time : (least greatest : ℕ) → least ≤ greatest → scaled_time 100 least greatest ≡ greatest
whole_time least greatest ordered = omega (arith, ordered)

whole_runnable : (runnable : RunnableDef) → IsOrdered runnable → scaled_runnable 100 runnable ≡ runnable
whole_runnable runnable ordered = ap (λ n. record runnable { greatest = n }) (whole_time runnable.least runnable.greatest ordered)

whole_task : (task : TaskDef) → AreOrdered task → scaled_task 100 task ≡ task
whole_task task ordered = ap (λ (runnables : List RunnableDef). record task { runnables = runnables })
    (same_lists (map (scaled_runnable 100) task.runnables) task.runnables (length-map task.runnables (scaled_runnable 100))
    (λ k d lt.
    let within : k < length task.runnables = omega (arith, lt, length-map task.runnables (scaled_runnable 100)) in
    get_or-map (scaled_runnable 100) task.runnables k d d within ∙ whole_runnable (get_or task.runnables k d) (ordered k d within)))

either_same : (b : Bool) (n : ℕ) → cond b n n ≡ n
either_same true n = refl
either_same false n = refl

whole_percent : (whose : Whose) (task : ℕ) → percent_of whose 100 task ≡ 100
whole_percent EveryTask task = refl
whole_percent (OneTask one) task = either_same (task == one) 100

-- ---- a grown model

module _ (model : SystemModel) (whose : Whose) (percent : ℕ) where
  abbrev made : SystemModel
  made = grown model whose percent

  abbrev numbers : List ℕ
  numbers = range_with_len 0 (length model.tasks)

  pub count_grown : length made.tasks ≡ length model.tasks
  unfolding grown_by
  count_grown = length-map-range_with_len (grown_task model (percent_of whose percent)) 0 (length model.tasks)

  pub task_grown : (i : ℕ) (d : TaskDef) → i < length model.tasks → get_or made.tasks i d ≡ grown_task model (percent_of whose percent) i
  unfolding grown_by
  task_grown i d h = get_or-map-range_with_len (grown_task model (percent_of whose percent)) 0 (length model.tasks) i i d h (omega arith)

  pub grown_alike : bare_model made ≡ bare_model model
  unfolding bare_model grown_by
  grown_alike = ap (λ (tasks : List TaskDef). record model { tasks = tasks })
      (map-map bare_task (grown_task model (percent_of whose percent)) numbers
      ∙ maps_agree (λ i. bare_task (grown_task model (percent_of whose percent) i)) (λ i. bare_task (task_at model i)) (λ i. scaled_bare (percent_of whose percent i) (task_at model i)) numbers
      ∙ sym (map-map bare_task (task_at model) numbers)
      ∙ ap (map bare_task) (by_number model.tasks no_task))

  grown_ordered : All AreOrdered made.tasks
  unfolding grown_by
  grown_ordered = All-map AreOrdered (grown_task model (percent_of whose percent)) numbers
      (λ k d lt. scaled_ordered (percent_of whose percent (get_or numbers k d)) (task_at model (get_or numbers k d)))

pub grown_valid : (model : SystemModel) → IsValid model → (whose : Whose) (percent : ℕ) → IsInRange (grown model whose percent) → IsValid (grown model whose percent)
grown_valid model valid whose percent in_range =
    valid_but_times model (grown model whose percent) (grown_alike model whose percent) (grown_ordered model whose percent) valid in_range

-- ---- at 100 percent

whole_at : (model : SystemModel) → IsValid model → (whose : Whose) (i : ℕ) → i < length model.tasks → grown_task model (percent_of whose 100) i ≡ task_at model i
whole_at model valid whose i h =
    ap (λ n. scaled_task n (task_at model i)) (whole_percent whose i)
    ∙ whole_task (task_at model i) (times_ordered model valid i h)

whole_tasks : (model : SystemModel) → IsValid model → (whose : Whose) → (grown model whose 100).tasks ≡ model.tasks
whole_tasks model valid whose =
    same_lists (grown model whose 100).tasks model.tasks (count_grown model whose 100)
    (λ k d lt.
    let h : k < length model.tasks = omega (arith, lt, count_grown model whose 100) in
    task_grown model whose 100 k d h ∙ whole_at model valid whose k h ∙ get_or_default model.tasks k no_task d h)

pub grown_same : (model : SystemModel) → IsValid model → (whose : Whose) → grown model whose 100 ≡ model
unfolding grown_by
grown_same model valid whose = ap (λ (tasks : List TaskDef). record model { tasks = tasks }) (whole_tasks model valid whose)
