-- How far the tasks of a core have come, and what the core does next. Times are in ticks.
use Rattle.std.specs.Prelude.{◌≡◌, ℕ, Option, Some, None, ◌+◌, ◌^◌, ◌<◌, ◌≤◌, List, ◌++◌, length, slice_index_or, count_by, replicate}
use Rattle.std.specs.Option.{option_map}
use Rattle.cl_runs.specs.{TaskTiming.{System, timing_at, IsSound}, declared.job.JobTable.JobTable, Table.{table_jobs, AreLawfulJobs}, Run.is_task, Legal.IsScheduled}
use Rattle.cl_sched.specs.{declared.{progress.Progress.Progress, core_progress.{CoreProgress.CoreProgress, Next.Next, Waiting.Waiting}}, Progress.{HasComeTo, IsHolding}}

-- a table is lawful at a core: it has lawful jobs of each task of that
pub record IsLawfulAt (system : System) (core : ℕ) (table : JobTable) : Type 0 where
  pub tasks : length table.jobs ≡ length system.tasks
  pub jobs : (task : ℕ) → task < length system.tasks → (timing_at system task).core ≡ core
      → AreLawfulJobs (timing_at system task) table.ticks (table_jobs table task)

-- the ticks of a task among entries of its core
abbrev pub ticks_of : List (Option ℕ) → (task : ℕ) → ℕ
ticks_of entries task = count_by (is_task task) entries

-- after these entries of a core, an entry is what is scheduled in each tick of a span: from their end until a tick
abbrev pub IsScheduledUntil : System → JobTable → (core : ℕ) → List (Option ℕ) → (until : ℕ) → Option ℕ → Type 0
IsScheduledUntil system table core entries until who = (n : ℕ) → length entries + n < until
    → IsScheduled system table (ticks_of (entries ++ replicate n who)) (length entries + n) core who

-- what stands past the last task of a core
unfoldable pub no_progress : Progress
no_progress = record { task = 0; priority = 0; job = 0; place = 0; left = 0; release = 0 }

abbrev pub progress_at : List Progress → (index : ℕ) → Progress
progress_at tasks index = slice_index_or tasks index no_progress

-- a task of a core with these entries so far, and how far it has come
pub record IsOfCore (system : System) (table : JobTable) (core : ℕ) (entries : List (Option ℕ)) (progress : Progress)
    : Type 0 where
  pub is_task : progress.task < length system.tasks
  pub on_core : (timing_at system progress.task).core ≡ core
  pub priority : progress.priority ≡ (timing_at system progress.task).priority
  pub has_come : HasComeTo (table_jobs table progress.task) (ticks_of entries progress.task) progress

-- a task of a core is held
abbrev pub Holds : System → JobTable → Progress → Type 0
Holds system table progress = IsHolding (timing_at system progress.task) (table_jobs table progress.task) progress

-- where a task of a core stands in a list
pub record StandsAmong (task : ℕ) (tasks : List Progress) : Type 0 where
  pub index : ℕ
  pub within : index < length tasks
  pub is : (progress_at tasks index).task ≡ task

-- a list has each task of a core once, with how far it has come where these are the entries so far
pub record AreOfCore (system : System) (table : JobTable) (core : ℕ) (entries : List (Option ℕ)) (tasks : List Progress)
    : Type 0 where
  pub each : (index : ℕ) → index < length tasks → IsOfCore system table core entries (progress_at tasks index)
  pub all : (task : ℕ) → task < length system.tasks → (timing_at system task).core ≡ core → StandsAmong task tasks
  pub once : (one other : ℕ) → one < length tasks → other < length tasks
      → (progress_at tasks one).task ≡ (progress_at tasks other).task → one ≡ other

-- the held task of a core is the one at an index, or none is held
pub record IsHeldIndex (system : System) (table : JobTable) (tasks : List Progress) (held : Option ℕ) : Type 0 where
  pub within : (index : ℕ) → held ≡ Some index → index < length tasks
  pub holds : (index : ℕ) → held ≡ Some index → Holds system table (progress_at tasks index)
  pub alone : (index : ℕ) → index < length tasks → Holds system table (progress_at tasks index) → held ≡ Some index

-- no task of a list has a higher priority than one in front of it
abbrev pub AreFalling : List Progress → Type 0
AreFalling tasks = (one other : ℕ) → one ≤ other → other < length tasks
    → (progress_at tasks other).priority ≤ (progress_at tasks one).priority

-- the first tasks of a list wait
pub record AreWaiting (tasks : List Progress) (waiting : Waiting) : Type 0 where
  pub within : waiting.count ≤ length tasks
  pub each : (index : ℕ) → index < waiting.count → waiting.until ≤ (progress_at tasks index).release

-- how far the tasks of a core have come where these are the entries so far
pub record IsReached (system : System) (table : JobTable) (core : ℕ) (entries : List (Option ℕ)) (reached : CoreProgress)
    : Type 0 where
  pub tick : reached.tick ≡ length entries
  pub tasks : AreOfCore system table core entries reached.tasks.items
  pub held : IsHeldIndex system table reached.tasks.items reached.held
  pub falling : AreFalling reached.tasks.items
  pub waiting : AreWaiting reached.tasks.items reached.waiting

-- of the first n tasks that are released at a tick, the one of highest priority, or none where none is released
abbrev pub IsBestOf : List Progress → (n tick : ℕ) → Option ℕ → Type 0
IsBestOf tasks n tick None = (index : ℕ) → index < n → tick < (progress_at tasks index).release
IsBestOf tasks n tick (Some best) = (best < n) × ((progress_at tasks best).release ≤ tick)
    × ((index : ℕ) → index < n → (progress_at tasks index).release ≤ tick
    → (progress_at tasks index).priority ≤ (progress_at tasks best).priority)

-- none of the first n tasks is released after a tick and before an event
abbrev pub AreSteadyOf : List Progress → (n tick event : ℕ) → Type 0
AreSteadyOf tasks n tick event = (index : ℕ) → index < n → tick < (progress_at tasks index).release
    → event ≤ (progress_at tasks index).release

-- no task that would run in place of the chosen one is released after a tick and before an event: where none is chosen,
-- no task at all
abbrev pub AreSteadyAbove : List Progress → (chosen : Option ℕ) → (tick event : ℕ) → Type 0
AreSteadyAbove tasks None tick event = AreSteadyOf tasks (length tasks) tick event
AreSteadyAbove tasks (Some best) tick event = (index : ℕ) → index < length tasks → tick < (progress_at tasks index).release
    → (progress_at tasks best).priority < (progress_at tasks index).priority → event ≤ (progress_at tasks index).release

-- what a core does from a tick on, and until when: the held task goes on, and where none is held, the released one of
-- highest priority does, until one of a higher priority is released
abbrev pub IsChoice : List Progress → (held : Option ℕ) → (tick : ℕ) → (chosen : Option ℕ) → (until : ℕ) → Type 0
IsChoice tasks (Some held) tick chosen until = chosen ≡ Some held
IsChoice tasks None tick chosen until = IsBestOf tasks (length tasks) tick chosen
    × AreSteadyAbove tasks chosen tick until

-- what a core does next, as long as no event comes and the runnable isn't finished
pub record IsNext (reached : CoreProgress) (next : Next) : Type 0 where
  pub choice : IsChoice reached.tasks.items reached.held reached.tick next.chosen next.until
  pub who : next.who ≡ option_map (λ index. (progress_at reached.tasks.items index).task) next.chosen
  pub some : reached.tick < next.until
  pub fits : next.until < 2 ^ 64
  pub in_list : (index : ℕ) → next.chosen ≡ Some index → index < length reached.tasks.items
  pub waiting : AreWaiting reached.tasks.items next.waiting
  pub behind : (index : ℕ) → next.chosen ≡ Some index → next.waiting.count ≤ index
  pub within_left : (index : ℕ) → next.chosen ≡ Some index
      → next.until ≤ reached.tick + (progress_at reached.tasks.items index).left

-- a core is underway with a table that is lawful at it: it is reached after some entries
pub record IsUnderwayIn (system : System) (table : JobTable) (reached : CoreProgress) : Type 0 where
  pub core : ℕ
  pub entries : List (Option ℕ)
  pub lawful : IsLawfulAt system core table
  pub is : IsReached system table core entries reached

-- with some table
pub record IsUnderway (reached : CoreProgress) : Type 0 where
  pub system : System
  pub table : JobTable
  pub sound : IsSound system
  pub is : IsUnderwayIn system table reached
