-- What is asked of the tasks of a model where they have other times. Times are in ticks.
use Rattle.std.specs.Prelude.{◌≡◌, ℕ, ◌-◌, ◌<◌, Bool, false, cond, nat_le, nat_lt, List, length, map, filter, slice_index_or, sum_by}
use Rattle.std.specs.List.{list_all}
use Rattle.cl_model.specs.{declared.{limits.TheConstants.MOST_TICKS, model.SystemModel.SystemModel, task.{RunnableDef.RunnableDef, TaskDef.TaskDef}}, ByNumber.{task_at, core_of, deadline_of, jitter_of, tasks_of_core}, Holds.greatest_by}
use Rattle.cl_model.specs.ByNumber as tasks
use Rattle.cl_stim.specs.AnyStimulus.{as_stimulus}
use Rattle.cl_resp.specs.{declared.question.{Above.Above, Question.Question}, Response.response_to}
use Rattle.cl_bound.specs.Answers.{answer_with, is_late}
use Rattle.cl_scale.specs.Scaled.{scaled_time}
use Rattle.cl_tune.specs.declared.times.TaskTimes.{TaskTimes}

-- ---- scaled times

-- the greatest time of a runnable, scaled
abbrev pub scaled_greatest : (percent : ℕ) → RunnableDef → ℕ
scaled_greatest percent runnable = scaled_time percent runnable.least runnable.greatest

-- how long it may hold its core then: its greatest time without its first tick, where it is whole
abbrev pub scaled_hold : (percent : ℕ) → RunnableDef → ℕ
scaled_hold percent runnable = cond runnable.whole (scaled_greatest percent runnable - 1) 0

-- whether its greatest time stays in range, and those of all runnables of a task
abbrev pub stays_within : (percent : ℕ) → RunnableDef → Bool
stays_within percent runnable = nat_le (scaled_greatest percent runnable) MOST_TICKS

abbrev pub are_within : (percent : ℕ) → TaskDef → Bool
are_within percent task = list_all (stays_within percent) task.runnables

-- the times of a task
abbrev pub scaled_times : (percent : ℕ) → TaskDef → TaskTimes
scaled_times percent task = record {
  time = sum_by (scaled_greatest percent) task.runnables;
  hold = greatest_by (scaled_hold percent) task.runnables;
}

-- ---- questions, where the tasks have these times

-- stands for the times of a task past the last one
unfoldable pub no_times : TaskTimes
no_times = record { time = 0; hold = 0 }

-- the times of the task of a number
abbrev pub times_at : List TaskTimes → (task : ℕ) → TaskTimes
times_at times task = slice_index_or times task no_times

-- whether another task has a higher priority, and whether it may hold the core of a task while that waits
abbrev pub is_higher : SystemModel → (task other : ℕ) → Bool
is_higher model task other = nat_lt (task_at model task).priority (task_at model other).priority

abbrev pub may_hold : SystemModel → (task other : ℕ) → Bool
may_hold model task other = nat_le (task_at model other).priority (task_at model task).priority

-- what a task takes of its core
abbrev pub above_with : SystemModel → List TaskTimes → (other : ℕ) → Above
above_with model times other = record { stimulus = as_stimulus (tasks.stimulus_of model other); time = (times_at times other).time }

-- how long it may hold it
abbrev pub hold_with : List TaskTimes → (other : ℕ) → ℕ
hold_with times other = (times_at times other).hold

-- the question of a task
abbrev pub question_with : SystemModel → List TaskTimes → (task : ℕ) → Question
question_with model times task =
    let others = tasks_of_core model (core_of model task) in
    record {
      time = (times_at times task).time;
      block = greatest_by (hold_with times) (filter (may_hold model task) others);
      jitter = jitter_of model task;
      deadline = deadline_of model task;
      above = map (above_with model times) (filter (is_higher model task) others);
    }

-- no task is late
abbrev pub AreTimely : SystemModel → List TaskTimes → Type 0
AreTimely model times =
    (task : ℕ) → task < length model.tasks → is_late (answer_with (response_to (question_with model times task))) ≡ false
