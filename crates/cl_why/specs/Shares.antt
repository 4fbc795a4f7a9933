-- The lines of the worst window of a task, and of what its ticks go to.
use Rattle.std.specs.Prelude.{ℕ, Bool, true, false, cond, List, [], ◌++◌, length, codes, decimal}
use Rattle.std.specs.Fmt.{signed_decimal}
use Rattle.std.specs.List.{flat_map, range_with_len}
use Rattle.cl_text.specs.Line.{line}
use Rattle.cl_model.specs.{declared.model.SystemModel.SystemModel, ByNumber.task_at}
use Rattle.cl_runs.specs.{TaskTiming.timing_at, SystemOf.system_of, Priorities.is_above, ExecutionTimes.greatest_execution}
use Rattle.cl_cycle.specs.Cycles.{is_one_of, in_phase_above}
use Rattle.cl_resp.specs.{declared.{question.Block.TheVariants.OfLower, worst.WorstWindow.WorstWindow}, Question.lower_block_of}
use Rattle.cl_explain.specs.Parts.{where_some, blocker_of}
use Rattle.cl_why.specs.Windows.{end_of, jobs_in_window, time_in_window, time_past_window}

-- a number of ticks that are too many, where there are some
abbrev pub over_words : (over : ℕ) → List ℕ
over_words over = where_some over (codes " over " ++ decimal over)

-- the line of the window: when its job arrives, from where to where it lasts, and by how much more is asked of it
unfoldable pub window_line : SystemModel → (task : ℕ) → WorstWindow → List ℕ
window_line model task window =
    line (codes "window " ++ (task_at model task).name ++ codes " arrival " ++ signed_decimal window.arrival
    ++ codes " from " ++ signed_decimal window.start ++ codes " to " ++ signed_decimal (end_of model task window)
    ++ over_words (time_past_window model task window))

-- the line of a share of it
abbrev pub share_line : SystemModel → (task : ℕ) → (words : List ℕ) → List ℕ
share_line model task words = line (codes "share " ++ (task_at model task).name ++ words)

abbrev pub block_share : SystemModel → (task block : ℕ) → List ℕ
block_share model task block =
    where_some block (share_line model task (codes " block " ++ decimal block ++ codes " by " ++ blocker_of OfLower model task block))

abbrev pub own_share : SystemModel → (task time : ℕ) → List ℕ
own_share model task time = share_line model task (codes " own " ++ decimal time)

-- what is said of one that isn't known by its phase
abbrev pub free_words : (by_phase : Bool) → List ℕ
free_words true = []
free_words false = codes " free"

-- the jobs of another task that are released in the window, if there are some
abbrev pub jobs_share : SystemModel → (task : ℕ) → WorstWindow → (other : ℕ) → List ℕ
jobs_share model task window other =
    where_some (jobs_in_window model task window other)
    (share_line model task (codes " above " ++ (task_at model other).name ++ codes " jobs " ++ decimal (jobs_in_window model task window other)
    ++ codes " time " ++ decimal (time_in_window model task window other) ++ free_words (is_one_of (in_phase_above (system_of model) task) other)))

-- the jobs of another task, where it is above
abbrev pub above_share : SystemModel → (task : ℕ) → WorstWindow → (other : ℕ) → List ℕ
above_share model task window other =
    cond (is_above (timing_at (system_of model) task) (timing_at (system_of model) other)) (jobs_share model task window other) []

abbrev pub above_shares : SystemModel → (task : ℕ) → WorstWindow → List ℕ
above_shares model task window = flat_map (above_share model task window) (range_with_len 0 (length model.tasks))

-- all lines of the window of a task
unfoldable pub window_lines : SystemModel → (task : ℕ) → WorstWindow → List ℕ
window_lines model task window =
    window_line model task window
    ++ block_share model task (lower_block_of (system_of model) (timing_at (system_of model) task))
    ++ own_share model task (greatest_execution (timing_at (system_of model) task))
    ++ above_shares model task window
