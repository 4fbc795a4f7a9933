-- How many executions of runnables a simulation is counted to have, before anything is drawn.
use Rattle.std.specs.Prelude.{ℕ, ◌+◌, ◌-◌, ◌*◌, ◌/◌, ◌%◌, Bool, cond, List, length, sum_by}
use Rattle.std.specs.Int.{div_ceil}
use Rattle.cl_model.specs.declared.{model.SystemModel.SystemModel, stimulus.StimulusKind.{StimulusKind, TheVariants.{Periodic, Sporadic, Burst}}}
use Rattle.cl_runs.specs.{TaskTiming.Timing, SystemOf.system_of}
use Rattle.cl_run_data.specs.Parts.{is_among}
use Rattle.cl_gen.specs.Arrivals.{arrivals_below}

-- how many jobs are counted in the first ticks: as many as the least gaps allow
unfoldable pub arrival_count : StimulusKind → (ticks : ℕ) → ℕ
arrival_count (Periodic period offset jitter) ticks = div_ceil (ticks - offset) period
arrival_count (Sporadic least greatest) ticks = div_ceil ticks least
arrival_count (Burst period offset count distance) ticks =
    arrivals_below (λ k. offset + k / count * period + k % count * distance) ticks

-- how many executions are counted of a task: its runnables times its jobs
unfoldable pub task_executions : (ticks : ℕ) → Timing → ℕ
task_executions ticks task = length task.ranges * arrival_count task.pattern ticks

-- of all tasks
abbrev pub execution_count : SystemModel → (ticks : ℕ) → ℕ
execution_count model ticks = sum_by (task_executions ticks) (system_of model).tasks

-- of a task in a table of some cores: none if its core isn't among these
abbrev pub executions_of : (ticks : ℕ) → (cores : List Bool) → Timing → ℕ
executions_of ticks cores task = cond (is_among cores task.core) (task_executions ticks task) 0

-- of the tasks of some cores
abbrev pub executions_on : SystemModel → (ticks : ℕ) → (cores : List Bool) → ℕ
executions_on model ticks cores = sum_by (executions_of ticks cores) (system_of model).tasks
