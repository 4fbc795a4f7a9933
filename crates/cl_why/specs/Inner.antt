-- What only private clauses cite: windows and walks as the code holds them.
use Rattle.std.specs.Prelude.{◌≡◌, ℕ, ℤ, ◌<◌, Bool, List, ◌++◌, length, codes, decimal}
use Rattle.std.specs.Fmt.{signed_decimal}
use Rattle.cl_text.specs.Line.{line}
use Rattle.cl_model.specs.{declared.{group.Group.Group, model.SystemModel.SystemModel}, ByNumber.task_at}
use Rattle.cl_runs.specs.{TaskTiming.timing_at, SystemOf.system_of, ExecutionTimes.greatest_execution}
use Rattle.cl_cycle.specs.Promises.{IsCycleOf}
use Rattle.cl_resp.specs.{declared.worst.WorstWindow.WorstWindow, Question.lower_block_of}
use Rattle.cl_phase.specs.declared.whole.WholeWalk.{WholeWalk}
use Rattle.cl_near.specs.Plans.{IsWindowOfRun, IsWindowNear}
use Rattle.cl_why.specs.{declared.window.Window.Window, Windows.end_of, Shares.{over_words, free_words}}

-- the worst window of a task, with what its shares are counted from
pub record IsWindowOf (model : SystemModel) (task : ℕ) (window : Window) : Type 0 where
  pub is_task : task < length model.tasks
  pub of_task : window.task ≡ task
  pub is_worst : IsWindowOfRun (system_of model) task window.worst
  pub near : IsWindowNear window.worst
  pub ends : window.until ≡ end_of model task window.worst
  pub block : window.block ≡ lower_block_of (system_of model) (timing_at (system_of model) task)
  pub time : window.time ≡ greatest_execution (timing_at (system_of model) task)
  pub cycle : IsCycleOf (system_of model) task window.cycle

-- the line of the window of a task that ends at a moment, where so many ticks too many are asked
abbrev pub window_until : SystemModel → (task : ℕ) → WorstWindow → (until : ℤ) → (over : ℕ) → List ℕ
window_until model task window until over =
    line (codes "window " ++ (task_at model task).name ++ codes " arrival " ++ signed_decimal window.arrival
    ++ codes " from " ++ signed_decimal window.start ++ codes " to " ++ signed_decimal until ++ over_words over)

-- the line of so many jobs of another task, which take so long
abbrev pub jobs_line : SystemModel → (task other jobs time : ℕ) → (by_phase : Bool) → List ℕ
jobs_line model task other jobs time by_phase =
    line (codes "share " ++ (task_at model task).name ++ codes " above " ++ (task_at model other).name ++ codes " jobs " ++ decimal jobs
    ++ codes " time " ++ decimal time ++ free_words by_phase)

-- a walk has two jobs of each group
pub record HasJobsOf (groups : List Group) (walk : WholeWalk) : Type 0 where
  pub kept : length walk.kept ≡ length groups
  pub missed : length walk.missed ≡ length groups
  pub taken : length walk.taken ≡ length groups
