-- What is said of the first rule that a run breaks: what the run has there, and what is wanted. Times are in ticks.
use Rattle.std.specs.Prelude.{◌≡◌, ℕ, suc, ◌+◌, ◌-◌, Bool, ◌&&◌, ◌==◌, not, nat_le, nat_lt, min, if◌then◌else◌, List, [], ◌∷◌, ◌++◌, Option, Some, None, codes, decimal}
use Rattle.std.specs.List.{find, zip}
use Rattle.std.specs.Option.{option_map_or}
use Rattle.cl_text.specs.Line.{line}
use Rattle.cl_model.specs.{declared.{model.SystemModel.SystemModel, stimulus.StimulusKind.StimulusKind, task.RunnableDef.RunnableDef}, ByNumber.{task_at, stimulus_of}, Timing.greatest_jitter}
use Rattle.cl_runs.specs.{declared.job.Job.Job, Pattern.{first_least, first_greatest, least_gap, greatest_gap}, SystemOf.system_of, Run.{Run, jobs_of, entry_at}, Legal.IsLegal}
use Rattle.cl_check.specs.declared.run_fault.Rule.{Rule, TheVariants.{Arrival, Release, Time, Missing, Schedule}}

-- what stands there, and what is wanted
abbrev pub found_and_wanted : (found wanted : List ℕ) → List ℕ
found_and_wanted found wanted = line (codes "found " ++ found) ++ line (codes "wanted " ++ wanted)

-- the numbers from one to another, and one alone where they are the same
abbrev pub span_words : (low high : ℕ) → List ℕ
span_words low high = if low == high then decimal low else decimal low ++ codes " to " ++ decimal high

-- ---- arrivals

-- a job arrives in [low, high], and in the first `ticks` ticks
abbrev pub arrives_well : (ticks low high : ℕ) → Job → Bool
arrives_well ticks low high job = (nat_le low job.arrival && nat_le job.arrival high) && nat_lt job.arrival ticks

-- the arrivals in [low, high] within these ticks, or that there are none for the task of that name
abbrev pub arrivals_words : (name : List ℕ) → (ticks low high : ℕ) → List ℕ
arrivals_words name ticks low high =
    if nat_le ticks low then codes "no further job of " ++ name else codes "arrival " ++ span_words low (min high (ticks - 1))

-- of a job that is due in [low, high] and arrives otherwise
abbrev pub untimely_text : (name : List ℕ) → (ticks low high : ℕ) → Job → List ℕ
untimely_text name ticks low high job = found_and_wanted (codes "arrival " ++ decimal job.arrival) (arrivals_words name ticks low high)

-- of the first job that doesn't arrive well, among the jobs of a task from number k on, of which the next is due in
-- [low, high]
abbrev pub arrival_text : (name : List ℕ) → StimulusKind → (ticks k low high : ℕ) → List Job → List ℕ
arrival_text name pattern ticks k low high [] = []
arrival_text name pattern ticks k low high (job ∷ jobs) =
    if arrives_well ticks low high job
    then arrival_text name pattern ticks (suc k) (job.arrival + least_gap pattern k) (job.arrival + greatest_gap pattern k) jobs
    else untimely_text name ticks low high job

-- ---- releases

-- a job is released at its arrival, or at most the jitter later
abbrev pub is_released_well : StimulusKind → Job → Bool
is_released_well pattern job = nat_le job.arrival job.release && nat_le job.release (job.arrival + greatest_jitter pattern)

-- of a job that isn't
abbrev pub ill_released_text : StimulusKind → Job → List ℕ
ill_released_text pattern job = found_and_wanted (codes "release " ++ decimal job.release)
    (codes "release " ++ span_words job.arrival (job.arrival + greatest_jitter pattern))

-- of the first job that isn't
abbrev pub release_text : StimulusKind → List Job → List ℕ
release_text pattern [] = []
release_text pattern (job ∷ jobs) = if is_released_well pattern job then release_text pattern jobs else ill_released_text pattern job

-- ---- execution times

-- a runnable and a time that isn't in its range
abbrev pub is_misfit : RunnableDef × ℕ → Bool
is_misfit pair = not (nat_le pair.0.least pair.1 && nat_le pair.1 pair.0.greatest)

-- the first runnable whose time isn't in its range, with that time
abbrev pub first_misfit : List RunnableDef → (times : List ℕ) → Option (RunnableDef × ℕ)
first_misfit runnables times = find is_misfit (zip runnables times)

abbrev pub misfit_text : RunnableDef × ℕ → List ℕ
misfit_text pair = found_and_wanted (codes "time " ++ decimal pair.1)
    (codes "time " ++ decimal pair.0.least ++ codes " to " ++ decimal pair.0.greatest ++ codes " of " ++ pair.0.name)

-- of the first job that has such a runnable
abbrev pub time_text : List RunnableDef → List Job → List ℕ
time_text runnables [] = []
time_text runnables (job ∷ jobs) = option_map_or misfit_text (first_misfit runnables job.times) (time_text runnables jobs)

-- ---- missing jobs

-- of a task that has no job up to the latest tick at which one is due
abbrev pub missing_text : (name : List ℕ) → (tick : ℕ) → List ℕ
missing_text name tick = line (codes "wanted a job of " ++ name ++ codes " at " ++ decimal tick)

-- ---- the schedule

-- what a core does: a task runs, or the core idles
abbrev pub entry_words : SystemModel → Option ℕ → List ℕ
entry_words model None = codes "idle"
entry_words model (Some task) = codes "task " ++ (task_at model task).name

-- of a core at a tick: what the run has there, and what a legal run of the same job table has
pub record IsSaidOfCore (model : SystemModel) (run : Run) (core tick : ℕ) (said : List ℕ) : Type 0 where
  pub legal : Run
  pub is_legal : IsLegal (system_of model) legal
  pub same_table : legal.table ≡ run.table
  pub text_is : said ≡ found_and_wanted (entry_words model (entry_at run core tick)) (entry_words model (entry_at legal core tick))

-- ---- the rules

-- of the task of a number
abbrev pub said_of_arrival : SystemModel → Run → (task : ℕ) → List ℕ
said_of_arrival model run task = arrival_text (task_at model task).name (stimulus_of model task) run.table.ticks 0
    (first_least (stimulus_of model task)) (first_greatest (stimulus_of model task)) (jobs_of run task)

abbrev pub said_of_release : SystemModel → Run → (task : ℕ) → List ℕ
said_of_release model run task = release_text (stimulus_of model task) (jobs_of run task)

abbrev pub said_of_time : SystemModel → Run → (task : ℕ) → List ℕ
said_of_time model run task = time_text (task_at model task).runnables (jobs_of run task)

-- what is said of a rule that is broken by the task of a number, or for the schedule by the core of that, with its tick
abbrev pub IsSaidOfRule : SystemModel → Run → Rule → (place tick : ℕ) → (said : List ℕ) → Type 0
IsSaidOfRule model run Arrival task tick said = said ≡ said_of_arrival model run task
IsSaidOfRule model run Release task tick said = said ≡ said_of_release model run task
IsSaidOfRule model run Time task tick said = said ≡ said_of_time model run task
IsSaidOfRule model run Missing task tick said = said ≡ missing_text (task_at model task).name tick
IsSaidOfRule model run Schedule core tick said = IsSaidOfCore model run core tick said

-- it stands behind a text
pub record TellsOfRule (model : SystemModel) (run : Run) (rule : Rule) (place tick : ℕ) (old new : List ℕ) : Type 0 where
  pub said : List ℕ
  pub is_said : IsSaidOfRule model run rule place tick said
  pub text_is : new ≡ old ++ said
