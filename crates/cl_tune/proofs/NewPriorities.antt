-- A model with other priorities, and its system: each task is the model's with another priority.
use Rattle.std.proofs.Common.{◌≡◌, ℕ, ◌<◌, List, length, get_or, map, refl, sym, ap, ◌∙◌, arith}
use Rattle.std.specs.Prelude.{◌==◌, if◌then◌else◌}
use Rattle.std.specs.List.{range_with_len}
use Rattle.std.proofs.lemmas.List.{same_lists, get_or_default}
use Rattle.std.proofs.lemmas.List.FromFn.{get_or-map-range_with_len, length-map-range_with_len}
use Rattle.cl_model.specs.{declared.{model.SystemModel.SystemModel, task.TaskDef.TaskDef}, ByNumber.no_task}
use Rattle.cl_runs.specs.{SystemOf.{timing_of, system_of}, TaskTiming.{Timing, System, timing_at, no_timing}}
use Rattle.cl_runs.proofs.ModelSystem.{timing_is, count_is}
use Rattle.cl_tune.specs.{Orders.{priority_in, priority_under}, Priorities.{task_with, with_all_priorities, HasPriorities}}

-- ---- a system with other priorities

-- a task of it
abbrev pub timing_with : System → (priority : ℕ → ℕ) → (task : ℕ) → Timing
timing_with system priority task = record (timing_at system task) { priority = priority task }

unfoldable pub system_with : System → (priority : ℕ → ℕ) → System
system_with system priority = record system { tasks = map (timing_with system priority) (range_with_len 0 (length system.tasks)) }

module _ (system : System) (priority : ℕ → ℕ) where
  pub count_with : length (system_with system priority).tasks ≡ length system.tasks
  unfolding system_with
  count_with = length-map-range_with_len (timing_with system priority) 0 (length system.tasks)

  pub timing_with_is : (i : ℕ) → i < length system.tasks → timing_at (system_with system priority) i ≡ timing_with system priority i
  unfolding system_with
  timing_with_is i h = get_or-map-range_with_len (timing_with system priority) 0 (length system.tasks) i i no_timing h (omega arith)

-- the priorities of the tasks of a system, where those of a core have the ones that an order gives them
abbrev pub priority_within : System → (core : ℕ) (order : List ℕ) → (task : ℕ) → ℕ
priority_within system core order task =
    if (timing_at system task).core == core then priority_in order task else (timing_at system task).priority

-- ---- a model with other priorities

module _ (model : SystemModel) (priority : ℕ → ℕ) where
  abbrev made : SystemModel
  made = with_all_priorities model priority

  pub count_made : length made.tasks ≡ length model.tasks
  unfolding with_all_priorities
  count_made = length-map-range_with_len (task_with model priority) 0 (length model.tasks)

  pub task_made : (i : ℕ) (d : TaskDef) → i < length model.tasks → get_or made.tasks i d ≡ task_with model priority i
  unfolding with_all_priorities
  task_made i d h = get_or-map-range_with_len (task_with model priority) 0 (length model.tasks) i i d h (omega arith)

  -- its timing has the priority that is given, and all else of the model's
  own_timing : (i : ℕ) → i < length model.tasks → timing_of made (task_with model priority i) ≡ timing_with (system_of model) priority i
  unfolding with_all_priorities
  own_timing i h = ap (λ (t : Timing). record t { priority = priority i }) (sym (timing_is model i h))

  timing_made : (i : ℕ) → i < length model.tasks → timing_at (system_of made) i ≡ timing_with (system_of model) priority i
  timing_made i h = timing_is made i (omega (arith, h, count_made)) ∙ ap (timing_of made) (task_made i no_task h) ∙ own_timing i h

  cores_made : (system_of made).cores ≡ (system_of model).cores
  unfolding system_of with_all_priorities
  cores_made = refl

  pub has_priorities : HasPriorities (system_of model) (system_of made) priority
  has_priorities = record {
    cores = cores_made;
    as_many = count_is made ∙ count_made ∙ sym (count_is model);
    each = λ task lt. timing_made task (omega (arith, lt, count_is model));
  }

  module _ (own : ℕ → ℕ) (same : (i : ℕ) → i < length model.tasks → priority i ≡ own i) where
    tasks_are : (system_of made).tasks ≡ (system_with (system_of model) own).tasks
    tasks_are = same_lists (system_of made).tasks (system_with (system_of model) own).tasks
        (count_is made ∙ count_made ∙ sym (count_is model) ∙ sym (count_with (system_of model) own))
        (λ k d lt.
        let h : k < length model.tasks = omega (arith, lt, count_is made, count_made) in
        let g : k < length (system_of model).tasks = omega (arith, h, count_is model) in
        get_or_default (system_of made).tasks k d no_timing lt
        ∙ timing_made k h
        ∙ ap (λ n. record (timing_at (system_of model) k) { priority = n }) (same k h)
        ∙ sym (timing_with_is (system_of model) own k g)
        ∙ sym (get_or_default (system_with (system_of model) own).tasks k d no_timing (omega (arith, g, count_with (system_of model) own))))

    pub system_is : system_of made ≡ system_with (system_of model) own
    unfolding system_of with_all_priorities system_with
    system_is = ap (λ (tasks : List Timing). record { cores = length model.cores; tasks = tasks }) tasks_are

-- the system of a model with given priorities
pub given_system : (model : SystemModel) (priority : ℕ → ℕ) → system_of (with_all_priorities model priority) ≡ system_with (system_of model) priority
given_system model priority = system_is model priority priority (λ i h. refl)

-- and where the tasks of a core have those that an order gives them
pub ordered_system : (model : SystemModel) (core : ℕ) (order : List ℕ)
    → system_of (with_all_priorities model (priority_under model core order)) ≡ system_with (system_of model) (priority_within (system_of model) core order)
ordered_system model core order =
    system_is model (priority_under model core order) (priority_within (system_of model) core order)
    (λ i h. sym (ap (λ (t : Timing). if t.core == core then priority_in order i else t.priority) (timing_is model i h)))
