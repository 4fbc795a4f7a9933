-- What the theory of runs needs of a model, computed from it: the timings of its tasks.
use Rattle.std.specs.Prelude.{length, map}
use Rattle.cl_model.specs.{declared.{model.SystemModel.SystemModel, task.{RunnableDef.RunnableDef, TaskDef.TaskDef}}, ByNumber.{core_number, stimulus_kind}, Timing.deadline_under}
use Rattle.cl_runs.specs.TaskTiming.{TimeRange, Timing, System}

-- the range of a runnable
abbrev pub range_of : RunnableDef → TimeRange
range_of runnable = record { least = runnable.least; greatest = runnable.greatest; whole = runnable.whole }

-- the timing of a task of the model
abbrev pub timing_of : SystemModel → TaskDef → Timing
timing_of model task = record {
  core = core_number model task;
  priority = task.priority;
  deadline = deadline_under (stimulus_kind model task) task;
  pattern = stimulus_kind model task;
  access = task.access;
  ranges = map range_of task.runnables;
}

-- the timings of a model: its number of cores, and its tasks in file order
unfoldable pub system_of : SystemModel → System
system_of model = record { cores = length model.cores; tasks = map (timing_of model) model.tasks }
