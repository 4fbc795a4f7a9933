-- The question of a task: what its response depends on.
-- Source: Audsley et al. 1993, with release jitter, and with blocking by non-preemptive regions.
use Rattle.std.specs.Prelude.{◌≡◌, ℕ, ◌<◌, ◌≤◌, ◌*◌, ◌+◌, ◌-◌, Bool, cond, nat_le, nat_lt, map, filter, length, All}
use Rattle.cl_model.specs.{declared.limits.TheConstants.{MOST_TICKS, MOST_RUNNABLES, MOST_DISTANCES, MOST_TASKS_OF_CORE}, Timing.{least_distance, greatest_jitter}, Holds.greatest_by}
use Rattle.cl_runs.specs.{TaskTiming.{TimeRange, Timing, System}, Priorities.{is_above, may_block, is_below}, ExecutionTimes.greatest_execution}
use Rattle.cl_stim.specs.AnyStimulus.{kind_of, as_stimulus}
use Rattle.cl_resp.specs.declared.question.{Above.Above, Block.{Block, TheVariants.{OfLower, WithOwn}}, Question.Question}

-- how long a runnable that has begun may hold its core: its greatest time without its first tick, where it is whole
abbrev pub hold_of : TimeRange → ℕ
hold_of range = cond range.whole (range.greatest - 1) 0

-- how long a runnable of a task may
unfoldable pub longest_hold : Timing → ℕ
longest_hold task = greatest_by hold_of task.ranges

-- how long a runnable of the task itself, or of one of lower priority on its core, may
unfoldable pub block_of : System → Timing → ℕ
block_of system task = greatest_by longest_hold (filter (may_block task) system.tasks)

-- how long a runnable of a task of lower priority on its core may
unfoldable pub lower_block_of : System → Timing → ℕ
lower_block_of system task = greatest_by longest_hold (filter (is_below task) system.tasks)

-- what a task of higher priority takes
abbrev pub taken_by : Timing → Above
taken_by other = record { stimulus = as_stimulus other.pattern; time = greatest_execution other }

-- the question of a task: whole runnables of its core block it, but for those of higher priority, and above it stand
-- the tasks of higher priority on its core, in file order
unfoldable pub question_of : System → Timing → Question
question_of system task = record {
  time = greatest_execution task;
  block = block_of system task;
  jitter = greatest_jitter task.pattern;
  deadline = task.deadline;
  above = map taken_by (filter (is_above task) system.tasks);
}

-- the tight question of a task: the same, but that runnables of its own don't block it
unfoldable pub tight_question_of : System → Timing → Question
tight_question_of system task = record {
  time = greatest_execution task;
  block = lower_block_of system task;
  jitter = greatest_jitter task.pattern;
  deadline = task.deadline;
  above = map taken_by (filter (is_above task) system.tasks);
}

-- one of the two, by which whole runnables block the task
abbrev pub either_question : (blocking : Block) → System → Timing → Question
either_question OfLower system task = tight_question_of system task
either_question WithOwn system task = question_of system task

-- how long a runnable that blocks the task so may hold its core
abbrev pub block_by : (blocking : Block) → System → Timing → ℕ
block_by OfLower system task = lower_block_of system task
block_by WithOwn system task = block_of system task

-- whether a task of the other priority may hold the core of one of this priority so
abbrev pub may_hold_beside : (blocking : Block) → (other priority : ℕ) → Bool
may_hold_beside OfLower other priority = nat_lt other priority
may_hold_beside WithOwn other priority = nat_le other priority

-- a question asks enough of a task: it is its question but for the block, which is no less than how long a runnable of
-- a task of lower priority on its core may hold that. A question of it and a tight one both do
pub record AsksEnough (system : System) (task : Timing) (question : Question) : Type 0 where
  pub time : question.time ≡ greatest_execution task
  pub block : lower_block_of system task ≤ question.block
  pub jitter : question.jitter ≡ greatest_jitter task.pattern
  pub deadline : question.deadline ≡ task.deadline
  pub above : question.above ≡ map taken_by (filter (is_above task) system.tasks)

-- the numbers of what stands above a task with this deadline are those of a valid model
pub record IsAboveInRange (deadline : ℕ) (above : Above) : Type 0 where
  pub time : above.time ≤ MOST_RUNNABLES * MOST_TICKS
  pub distances : deadline + greatest_jitter (kind_of above.stimulus) ≤ MOST_DISTANCES * least_distance (kind_of above.stimulus)

-- the numbers of a question are those of a task of a valid model
pub record IsQuestionInRange (question : Question) : Type 0 where
  pub released_before : question.jitter < question.deadline
  pub deadline : question.deadline ≤ MOST_TICKS
  pub some_time : 1 ≤ question.time
  pub time : question.time ≤ MOST_RUNNABLES * MOST_TICKS
  pub block : question.block ≤ MOST_TICKS
  pub few_above : length question.above < MOST_TASKS_OF_CORE
  pub above : All (IsAboveInRange question.deadline) question.above
