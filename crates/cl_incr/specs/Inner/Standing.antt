-- Which tasks and groups of one model stand in another as they did, maybe under other numbers.
use Rattle.std.specs.Prelude.{◌≡◌, ℕ, ◌<◌, List, length, map, slice_index}
use Rattle.cl_model.specs.{declared.{model.SystemModel.SystemModel, group.Group.Group}, ByNumber.{task_at, tasks_of_core}, Groups.group_at}
use Rattle.cl_runs.specs.{SystemOf.{timing_of, system_of}, TaskTiming.{Timing, timing_at}}
use Rattle.cl_bound.specs.Answers.{answers_of, answer_at}

-- ---- tasks

-- the timing of the task of a number of a model
abbrev pub timing_in : SystemModel → (task : ℕ) → Timing
timing_in model task = timing_of model (task_at model task)

-- the tasks of a core have, one by one, the timings that its tasks had
abbrev pub HasSameTimings : (old new : SystemModel) → (core : ℕ) → Type 0
HasSameTimings old new core = map (timing_in old) (tasks_of_core old core) ≡ map (timing_in new) (tasks_of_core new core)

-- a task of the new model has the timing and the answer that one of the old model had: it stands as that did
pub record StandsAs (old new : SystemModel) (was task : ℕ) : Type 0 where
  pub timing : timing_at (system_of old) was ≡ timing_at (system_of new) task
  pub answer : answer_at (answers_of (system_of old)) was ≡ answer_at (answers_of (system_of new)) task

-- for each task of the new model a number, as whose task it stands if the old model has one of that number
pub record AreStanding (old new : SystemModel) (standing : List ℕ) : Type 0 where
  pub count : length standing ≡ length new.tasks
  pub each : (task : ℕ) → task < length new.tasks → slice_index standing task < length old.tasks
      → StandsAs old new (slice_index standing task) task

-- ---- groups of chains

-- a group has the places of another, and its task the number that is noted for the task of that one
pub record IsNotedGroup (standing : List ℕ) (one other : Group) : Type 0 where
  pub first : one.first ≡ other.first
  pub last : one.last ≡ other.last
  pub task : slice_index standing other.task ≡ one.task

-- a group of the new model has the places of one of the old model, and its task stands as the task of that one did
pub record StaysGroup (old new : SystemModel) (one other : Group) : Type 0 where
  pub first : one.first ≡ other.first
  pub last : one.last ≡ other.last
  pub was_known : one.task < length old.tasks
  pub is_known : other.task < length new.tasks
  pub stands : StandsAs old new one.task other.task

-- as many groups, and one by one such
pub record StayGroups (old new : SystemModel) (groups others : List Group) : Type 0 where
  pub count : length groups ≡ length others
  pub each : (place : ℕ) → place < length others → StaysGroup old new (group_at groups place) (group_at others place)
