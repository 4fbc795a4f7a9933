-- The worst window of a task, and what is asked of it. Times are in ticks, and moments may lie before 0.
use Rattle.std.specs.Prelude.{ℕ, ◌+◌, ◌-◌, ℤ, pos, ◌+ℤ◌, ◌-ℤ◌, sum_by}
use Rattle.cl_model.specs.declared.model.SystemModel.{SystemModel}
use Rattle.cl_runs.specs.{TaskTiming.timing_at, SystemOf.system_of, Priorities.tasks_above, ExecutionTimes.greatest_execution}
use Rattle.cl_cycle.specs.Cycles.{is_one_of, in_phase_above}
use Rattle.cl_resp.specs.{declared.worst.WorstWindow.WorstWindow, ByPhase.{phase_if, released_by, time_by}, Question.lower_block_of}
use Rattle.cl_bound.specs.{declared.answer.TaskAnswer.{TaskAnswer, TheVariants.{Settled, Late}}, Answers.answer_at}
use Rattle.cl_phase.specs.TightBounds.{ticks_or_none}
use Rattle.cl_tight.specs.TightAnswers.{tight_answers_of}

-- how long after its arrival the window of a job ends: the response or, of a late task, the deadline
abbrev pub reach_of : TaskAnswer → (deadline : ℕ) → ℕ
reach_of (Settled settled) deadline = settled.response
reach_of Late deadline = deadline

-- where the window of a task ends
abbrev pub end_of : SystemModel → (task : ℕ) → WorstWindow → ℤ
end_of model task window =
    window.arrival +ℤ pos (reach_of (answer_at (tight_answers_of (system_of model)) task) (timing_at (system_of model) task).deadline)

-- how many ticks it has
abbrev pub width_of : SystemModel → (task : ℕ) → WorstWindow → ℕ
width_of model task window = ticks_or_none (end_of model task window -ℤ window.start)

-- the most jobs of another task that are released in it: by its phase where that task is in phase
abbrev pub jobs_in_window : SystemModel → (task : ℕ) → WorstWindow → (other : ℕ) → ℕ
jobs_in_window model task window other =
    let kind = (timing_at (system_of model) other).pattern in
    released_by (phase_if (is_one_of (in_phase_above (system_of model) task) other) kind) kind window.start (width_of model task window)

-- how long these take at most
abbrev pub time_in_window : SystemModel → (task : ℕ) → WorstWindow → (other : ℕ) → ℕ
time_in_window model task window other =
    time_by (system_of model) (is_one_of (in_phase_above (system_of model) task)) window.start (width_of model task window) other

-- what is asked of the window: by a runnable of a task below, by the job itself, and by the jobs of the tasks above
unfoldable pub sum_of_shares : SystemModel → (task : ℕ) → WorstWindow → ℕ
sum_of_shares model task window =
    lower_block_of (system_of model) (timing_at (system_of model) task) + greatest_execution (timing_at (system_of model) task)
    + sum_by (time_in_window model task window) (tasks_above (system_of model) task)

-- by how much more than it has
abbrev pub time_past_window : SystemModel → (task : ℕ) → WorstWindow → ℕ
time_past_window model task window = sum_of_shares model task window - width_of model task window
