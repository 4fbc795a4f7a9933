-- What a response is the sum of. Times are in ticks.
use Rattle.std.specs.Prelude.{ℕ, ◌-◌, ◌*◌, Bool, cond, ◌==◌, nat_lt, List, [], ◌++◌, length, find, Option, Some, None, codes, decimal}
use Rattle.std.specs.List.{flat_map, range_with_len}
use Rattle.cl_text.specs.Line.{line}
use Rattle.cl_model.specs.{declared.{model.SystemModel.SystemModel, task.RunnableDef.RunnableDef}, Holds.runnable_hold, ByNumber.task_at}
use Rattle.cl_runs.specs.{TaskTiming.{Timing, timing_at}, SystemOf.system_of, Priorities.{is_above, may_block, is_below}, ExecutionTimes.greatest_execution}
use Rattle.cl_stim.specs.Releases.{most_releases}
use Rattle.cl_resp.specs.{declared.question.{Block.{Block, TheVariants.{OfLower, WithOwn}}, Question.Question}, Question.question_of, Response.demand}
use Rattle.cl_bound.specs.declared.answer.TaskAnswer.{TaskAnswer, TheVariants.{Settled, Late}}

-- the window over which releases are counted: that of the response; where the task is late, all of its deadline that the
-- jitter leaves
abbrev pub window_counted : Question → TaskAnswer → ℕ
window_counted question (Settled response) = response.window
window_counted question Late = question.deadline - question.jitter

-- what a task above takes of a window
abbrev pub jobs_above : (width : ℕ) → Timing → ℕ
jobs_above width other = most_releases other.pattern width

abbrev pub time_above : (width : ℕ) → Timing → ℕ
time_above width other = jobs_above width other * greatest_execution other

-- the first runnable, in file order, that blocks a task so long, of the tasks that may block it
abbrev pub blocks_so_long : (block : ℕ) → RunnableDef → Bool
blocks_so_long block runnable = runnable_hold runnable == block

-- whether the other task may block a task so: with its own runnables, or of lower tasks alone
abbrev pub may_block_by : (blocking : Block) → Timing → (other : Timing) → Bool
may_block_by OfLower task other = is_below task other
may_block_by WithOwn task other = may_block task other

abbrev pub runnables_of_blocker : (blocking : Block) → SystemModel → (task other : ℕ) → List RunnableDef
runnables_of_blocker blocking model task other =
    cond (may_block_by blocking (timing_at (system_of model) task) (timing_at (system_of model) other)) (task_at model other).runnables []

abbrev pub all_blockers : (blocking : Block) → SystemModel → (task : ℕ) → List RunnableDef
all_blockers blocking model task = flat_map (runnables_of_blocker blocking model task) (range_with_len 0 (length model.tasks))

abbrev pub blocker_name : Option RunnableDef → List ℕ
blocker_name None = []
blocker_name (Some runnable) = runnable.name

unfoldable pub blocker_of : (blocking : Block) → SystemModel → (task block : ℕ) → List ℕ
blocker_of blocking model task block = blocker_name (find (blocks_so_long block) (all_blockers blocking model task))

-- ---- lines

-- a line of a part of the response of a task
abbrev pub part_line : SystemModel → (task : ℕ) → (words : List ℕ) → List ℕ
part_line model task words = line (codes "part " ++ (task_at model task).name ++ words)

-- a line that stands where its number is more than 0
abbrev pub where_some : (number : ℕ) → List ℕ → List ℕ
where_some number text = cond (nat_lt 0 number) text []

abbrev pub jitter_part : SystemModel → (task jitter : ℕ) → List ℕ
jitter_part model task jitter = where_some jitter (part_line model task (codes " jitter " ++ decimal jitter))

abbrev pub block_part : SystemModel → (task block : ℕ) → List ℕ
block_part model task block =
    where_some block (part_line model task (codes " block " ++ decimal block ++ codes " by " ++ blocker_of WithOwn model task block))

abbrev pub own_part : SystemModel → (task time : ℕ) → List ℕ
own_part model task time = where_some time (part_line model task (codes " own " ++ decimal time))

-- so many jobs of another task, which take this time
abbrev pub taken_part : SystemModel → (task other jobs time : ℕ) → List ℕ
taken_part model task other jobs time =
    where_some time (part_line model task (codes " above " ++ (task_at model other).name ++ codes " jobs " ++ decimal jobs ++ codes " time " ++ decimal time))

-- what another task takes of a window, where it is above
abbrev pub above_part : SystemModel → (task width other : ℕ) → List ℕ
above_part model task width other =
    let timing = timing_at (system_of model) other in
    cond (is_above (timing_at (system_of model) task) timing) (taken_part model task other (jobs_above width timing) (time_above width timing)) []

abbrev pub above_parts : SystemModel → (task width : ℕ) → List ℕ
above_parts model task width = flat_map (above_part model task width) (range_with_len 0 (length model.tasks))

-- by how much the parts of a late task exceed its deadline
abbrev pub time_over : Question → ℕ
time_over question = demand question (question.deadline - question.jitter) - (question.deadline - question.jitter)

abbrev pub over_part : SystemModel → (task : ℕ) → Question → TaskAnswer → List ℕ
over_part model task question (Settled response) = []
over_part model task question Late = part_line model task (codes " over " ++ decimal (time_over question))

-- all lines of a task
unfoldable pub part_lines : SystemModel → (task : ℕ) → TaskAnswer → List ℕ
part_lines model task answer =
    let question = question_of (system_of model) (timing_at (system_of model) task) in
    let width = window_counted question answer in
    jitter_part model task question.jitter
    ++ block_part model task question.block
    ++ own_part model task question.time
    ++ above_parts model task width
    ++ over_part model task question answer
