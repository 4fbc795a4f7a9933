-- What plans of runs keep: the cores that the runs are made on hold what they are to show. And the window by which the run
-- of a task is planned. Times are in ticks, and moments may lie before 0.
use Rattle.std.specs.Prelude.{◌≡◌, ℕ, ◌*◌, ◌<◌, pos, ◌+ℤ◌, true, List, length}
use Rattle.cl_model.specs.{declared.{group.Group.Group, limits.TheConstants.MOST_TICKS, model.SystemModel.SystemModel}, Groups.group_at}
use Rattle.cl_runs.specs.{TaskTiming.{System, timing_at}, SystemOf.system_of}
use Rattle.cl_run_data.specs.Parts.{is_among}
use Rattle.cl_stim.specs.Integers.{IsIntegerWithin}
use Rattle.cl_cycle.specs.Cycles.{cycle_of}
use Rattle.cl_resp.specs.{declared.worst.WorstWindow.WorstWindow, Worst.IsWorstWindowOf}
use Rattle.cl_near.specs.declared.{chain_plan.ChainPlan.ChainPlan, task_plan.TaskPlan.TaskPlan}

-- the core of each group is among those of the plan
abbrev pub IsPlanOfGroups : SystemModel → List Group → ChainPlan → Type 0
IsPlanOfGroups model groups plan = (place : ℕ) → place < length groups
    → is_among plan.cores (timing_at (system_of model) (group_at groups place).task).core ≡ true

-- the plan is of a task, whose core is among those of the plan
pub record IsPlanOfTask (model : SystemModel) (task : ℕ) (plan : TaskPlan) : Type 0 where
  pub is_task : task < length model.tasks
  pub of_task : plan.task ≡ task
  pub core : is_among plan.cores (timing_at (system_of model) task).core ≡ true

-- the worst window of a task, moved by whole cycles
pub record IsWindowOfRun (system : System) (task : ℕ) (window : WorstWindow) : Type 0 where
  pub worst : WorstWindow
  pub is_worst : IsWorstWindowOf system task worst
  pub turns : ℕ
  pub arrival : window.arrival ≡ worst.arrival +ℤ pos (turns * cycle_of system task)
  pub start : window.start ≡ worst.start +ℤ pos (turns * cycle_of system task)

-- its moments are so near to 0 that 64 signed bits hold all that is counted from them
pub record IsWindowNear (window : WorstWindow) : Type 0 where
  pub arrival : IsIntegerWithin (15000 * MOST_TICKS) window.arrival
  pub start : IsIntegerWithin (15000 * MOST_TICKS) window.start
