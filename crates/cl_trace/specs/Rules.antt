-- Which lines a trace may have, which run a text is the trace of, and which line of a text is the first bad one.
use Rattle.std.specs.Prelude.{◌≡◌, ◌≢◌, ℕ, suc, ◌<◌, ◌≤◌, ◌⊎◌, List, [], ◌∷◌, ◌++◌, length, All, Contains}
use Rattle.cl_text.specs.Standing.{NoneStands}
use Rattle.cl_model.specs.{declared.model.SystemModel.SystemModel, ByNumber.{task_at, core_of}}
use Rattle.cl_runs.specs.{declared.job.Job.Job, Run.{Run, jobs_of, IsInForm}, SystemOf.system_of}
use Rattle.cl_trace.specs.{declared.limits.TheConstants.{MOST_TRACE_TICKS, MOST_TRACE_NUMBER}, Trace.{Item, Title, Ticks, JobOf, Runs, End, item_text, text_of, spelled}}

-- ---- the rules of the lines

-- the numbers of a job line are in range
pub record IsJobInRange (job : Job) : Type 0 where
  pub arrival : job.arrival ≤ MOST_TRACE_NUMBER
  pub release : job.release ≤ MOST_TRACE_NUMBER
  pub times : All (λ time. time ≤ MOST_TRACE_NUMBER) job.times

-- a job of a task of the model: one time a runnable, and numbers in range
pub record IsJobOf (model : SystemModel) (task : ℕ) (job : Job) : Type 0 where
  pub is_task : task < length model.tasks
  pub times : length job.times ≡ length (task_at model task).runnables
  pub in_range : IsJobInRange job

-- the two first lines stand at the head of these
pub record HasHead (ticks : ℕ) (before : List Item) : Type 0 where
  pub body : List Item
  pub head : before ≡ Title ∷ Ticks ticks ∷ body

-- nothing stands below the last line
abbrev pub IsOpen : Item → Type 0
IsOpen End = ⊥
IsOpen item = Unit {0}

-- a job line of a task may stand below a line: a run line isn't, and the task isn't before that of a job line
abbrev pub IsAboveJob : (task : ℕ) → Item → Type 0
IsAboveJob task (JobOf other job) = other ≤ task
IsAboveJob task (Runs other from to) = ⊥
IsAboveJob task item = IsOpen item

-- a run line of a task may stand below one of another, up to `end`: its core isn't before that one's; where the core is
-- the same, it begins at that end or later, and where it begins there, it is of another task
pub record IsBelowRun (model : SystemModel) (other end task from : ℕ) : Type 0 where
  pub cores : core_of model other ≤ core_of model task
  pub after : core_of model other ≡ core_of model task → end ≤ from
  pub changes : core_of model other ≡ core_of model task → end ≡ from → other ≢ task

abbrev pub IsAboveRun : SystemModel → (task from : ℕ) → Item → Type 0
IsAboveRun model task from (Runs other start end) = IsBelowRun model other end task from
IsAboveRun model task from item = IsOpen item

-- a job line below these
pub record IsJobLine (model : SystemModel) (before : List Item) (task : ℕ) (job : Job) : Type 0 where
  pub ticks : ℕ
  pub head : HasHead ticks before
  pub is_job : IsJobOf model task job
  pub in_order : All (IsAboveJob task) before

-- a run line below these: a tick at least, within the ticks of the trace
pub record IsRunLine (model : SystemModel) (before : List Item) (task from to : ℕ) : Type 0 where
  pub ticks : ℕ
  pub head : HasHead ticks before
  pub is_task : task < length model.tasks
  pub some : from < to
  pub in_time : to ≤ ticks
  pub in_order : All (IsAboveRun model task from) before

-- the last line below these
pub record IsLastLine (before : List Item) : Type 0 where
  pub ticks : ℕ
  pub head : HasHead ticks before
  pub unended : All IsOpen before

-- a line may stand below these
abbrev pub MayStand : SystemModel → (before : List Item) → Item → Type 0
MayStand model before Title = before ≡ []
MayStand model before (Ticks ticks) = (before ≡ Title ∷ []) × (ticks ≤ MOST_TRACE_TICKS)
MayStand model before (JobOf task job) = IsJobLine model before task job
MayStand model before (Runs task from to) = IsRunLine model before task from to
MayStand model before End = IsLastLine before

-- each of these lines may stand below those before it
abbrev pub AreGoodAfter : SystemModel → (before : List Item) → List Item → Type 0
AreGoodAfter model before [] = Unit {0}
AreGoodAfter model before (item ∷ items) = MayStand model before item × AreGoodAfter model (before ++ item ∷ []) items

-- ---- the answers to a text

-- the numbers of a run are within the limits of a trace
pub record IsWithinLimits (run : Run) : Type 0 where
  pub ticks : run.table.ticks ≤ MOST_TRACE_TICKS
  pub jobs : (task : ℕ) → All IsJobInRange (jobs_of run task)

-- the text is the trace of a run: it spells that run, which is in form and within the limits
pub record IsTraceOf (model : SystemModel) (text : List ℕ) (run : Run) : Type 0 where
  pub in_form : IsInForm (system_of model) run
  pub within : IsWithinLimits run
  pub spelled : text ≡ spelled model run

-- these lines of the text, above that of a number, are good, and the text goes on with this rest: lines are counted
-- from 1
pub record IsGoodUpTo (model : SystemModel) (text : List ℕ) (number : ℕ) (items : List Item) (rest : List ℕ) : Type 0 where
  pub good : AreGoodAfter model [] items
  pub parts : text ≡ text_of model items ++ rest
  pub counted : number ≡ suc (length items)

-- the text ends before its last line
pub record EndsEarly (model : SystemModel) (text : List ℕ) (number : ℕ) : Type 0 where
  pub items : List Item
  pub good : IsGoodUpTo model text number items []
  pub unended : All IsOpen items

-- it goes on behind its last line
pub record EndsLate (model : SystemModel) (text : List ℕ) (number : ℕ) : Type 0 where
  pub items : List Item
  pub rest : List ℕ
  pub good : IsGoodUpTo model text number items rest
  pub ended : Contains items End
  pub some_left : rest ≢ []

-- it goes on before that with another line than those that may stand there
pub record HasOtherLine (model : SystemModel) (text : List ℕ) (number : ℕ) : Type 0 where
  pub items : List Item
  pub rest : List ℕ
  pub good : IsGoodUpTo model text number items rest
  pub unended : All IsOpen items
  pub some_left : rest ≢ []
  pub other : NoneStands (item_text model) (MayStand model items) rest

-- the first bad line of the text has that number, counted from 1: it is missing, or it stands behind the last line, or
-- it isn't one that may stand there
abbrev pub IsBadTraceLine : SystemModel → (text : List ℕ) → (number : ℕ) → Type 0
IsBadTraceLine model text number = EndsEarly model text number ⊎ (EndsLate model text number ⊎ HasOtherLine model text number)
