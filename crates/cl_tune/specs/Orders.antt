-- Orders of the tasks of a core, and what the tasks answer under them. Source: Audsley 1991.
use Rattle.std.specs.Prelude.{◌≡◌, ℕ, ◌+◌, ◌<◌, true, false, ◌==◌, if◌then◌else◌, List, length, position, unwrap_or, All, IsPermutation}
use Rattle.cl_model.specs.{declared.model.SystemModel.SystemModel, ByNumber.{task_at, core_of, tasks_of_core}, ValidTasks.spans_too_many}
use Rattle.cl_runs.specs.{SystemOf.system_of, TaskTiming.{System, timing_at}, Priorities.is_above}
use Rattle.cl_bound.specs.Answers.{answer_to, is_late}
use Rattle.cl_tune.specs.Priorities.{with_all_priorities}

-- the priority that an order gives a task: an order lists tasks by their numbers, from priority 1 upward
abbrev pub priority_in : (order : List ℕ) → (task : ℕ) → ℕ
priority_in order task = unwrap_or (position (λ other. other == task) order) 0 + 1

-- the priorities where the tasks of a core have those that an order gives them, and all others their own
abbrev pub priority_under : SystemModel → (core : ℕ) (order : List ℕ) → (task : ℕ) → ℕ
priority_under model core order task =
    if core_of model task == core then priority_in order task else (task_at model task).priority

-- a task passes: its deadline spans few least distances of each task of higher priority on its core, and it isn't late
pub record IsPassing (system : System) (task : ℕ) : Type 0 where
  pub few_distances : (other : ℕ) → other < length system.tasks → is_above (timing_at system task) (timing_at system other) ≡ true
      → spans_too_many (timing_at system task).deadline (timing_at system other).pattern ≡ false
  pub in_time : is_late (answer_to system (timing_at system task)) ≡ false

-- an order of a core passes: it has the tasks of the core, each once, and under it they pass
pub record IsPassingOrder (model : SystemModel) (core : ℕ) (order : List ℕ) : Type 0 where
  pub tasks : IsPermutation (tasks_of_core model core) order
  pub pass : All (IsPassing (system_of (with_all_priorities model (priority_under model core order)))) order
