-- The rules that a legal run keeps, in the order in which they are checked, and the first one that a run breaks. Times
-- are in ticks.
use Rattle.std.specs.Prelude.{◌≡◌, ℕ, suc, ◌+◌, ◌<◌, ◌⊎◌, Bool, true, false, ◌&&◌, nat_le, nat_lt, cond, List, [], ◌∷◌, ◌++◌, length, Option, Some, None}
use Rattle.std.specs.List.{range_with_len, flat_map}
use Rattle.cl_model.specs.{declared.stimulus.StimulusKind.StimulusKind, Timing.greatest_jitter}
use Rattle.cl_runs.specs.{declared.job.{Job.Job, JobTable.JobTable}, Pattern.{first_least, first_greatest, least_gap, greatest_gap}, TaskTiming.{TimeRange, System, timing_at}, Table.table_jobs, Run.{Run, entry_at, executed}, Legal.IsScheduled}
use Rattle.cl_check.specs.declared.run_fault.{Rule.TheVariants.{Arrival, Release, Time, Missing, Schedule}, RunFault.{RunFault, TheVariants.{Illegal, NoMemory}}}

-- a fault, unless the test passes
abbrev pub fault_unless : Bool → RunFault → List RunFault
fault_unless test fault = cond test [] (fault ∷ [])

-- the first fault of a list, if there is one
abbrev pub first_fault : List RunFault → Option RunFault
first_fault [] = None
first_fault (fault ∷ others) = Some fault

-- ---- the jobs of a task, by the task's number

-- whether each execution time lies in the range of its runnable
abbrev pub are_in_range : List TimeRange → (times : List ℕ) → Bool
are_in_range [] [] = true
are_in_range [] (time ∷ times) = false
are_in_range (range ∷ ranges) [] = false
are_in_range (range ∷ ranges) (time ∷ times) =
    (nat_le range.least time && nat_le time range.greatest) && are_in_range ranges times

-- a job arrives in [low, high], and in the first `ticks` ticks
abbrev pub arrival_faults : (ticks task low high : ℕ) → Job → List RunFault
arrival_faults ticks task low high job =
    fault_unless ((nat_le low job.arrival && nat_le job.arrival high) && nat_lt job.arrival ticks)
    (Illegal Arrival task job.arrival)

-- it is released at its arrival, or at most the jitter later
abbrev pub release_faults : StimulusKind → (task : ℕ) → Job → List RunFault
release_faults pattern task job =
    fault_unless (nat_le job.arrival job.release && nat_le job.release (job.arrival + greatest_jitter pattern))
    (Illegal Release task job.arrival)

-- each of its execution times lies in the range of its runnable
abbrev pub time_faults : List TimeRange → (task : ℕ) → Job → List RunFault
time_faults ranges task job = fault_unless (are_in_range ranges job.times) (Illegal Time task job.arrival)

-- all faults of a job that is due in [low, high]
abbrev pub job_faults : StimulusKind → List TimeRange → (ticks task low high : ℕ) → Job → List RunFault
job_faults pattern ranges ticks task low high job =
    arrival_faults ticks task low high job ++ (release_faults pattern task job ++ time_faults ranges task job)

-- all faults of the jobs of a task from number k on, where the next one is due in [low, high]: those of each job in
-- turn, and after the last one that a further job is missing, at the latest tick at which it is due
abbrev pub faults_from : StimulusKind → List TimeRange → (ticks task k low high : ℕ) → List Job → List RunFault
faults_from pattern ranges ticks task k low high [] = fault_unless (nat_le ticks high) (Illegal Missing task high)
faults_from pattern ranges ticks task k low high (job ∷ jobs) = job_faults pattern ranges ticks task low high job
    ++ faults_from pattern ranges ticks task (suc k) (job.arrival + least_gap pattern k)
    (job.arrival + greatest_gap pattern k) jobs

-- all faults of the jobs of a task
abbrev pub task_faults : StimulusKind → List TimeRange → (ticks task : ℕ) → List Job → List RunFault
task_faults pattern ranges ticks task jobs =
    faults_from pattern ranges ticks task 0 (first_least pattern) (first_greatest pattern) jobs

-- all faults of a task of a table, by its number
abbrev pub faults_of_task : System → JobTable → (task : ℕ) → List RunFault
faults_of_task system table task =
    task_faults (timing_at system task).pattern (timing_at system task).ranges table.ticks task (table_jobs table task)

-- all faults of a job table: those of each task in turn
abbrev pub table_faults : System → JobTable → List RunFault
table_faults system table = flat_map (faults_of_task system table) (range_with_len 0 (length system.tasks))

-- ---- the schedule

-- in a tick a core executes what is scheduled
abbrev pub IsScheduleKept : System → Run → (core tick : ℕ) → Type 0
IsScheduleKept system run core tick = IsScheduled system run.table (λ task. executed system run task tick) tick core (entry_at run core tick)

-- a tick is the first in which a core doesn't execute what is scheduled
pub record IsFirstOnCore (system : System) (run : Run) (core tick : ℕ) : Type 0 where
  pub is_tick : tick < run.table.ticks
  pub broken : IsScheduleKept system run core tick → ⊥
  pub earlier : (t : ℕ) → t < tick → IsScheduleKept system run core t

-- a fault is that of a core, at the first tick in which it doesn't execute what is scheduled
pub record BreaksCore (system : System) (run : Run) (core : ℕ) (fault : RunFault) : Type 0 where
  pub tick : ℕ
  pub fault_is : fault ≡ Illegal Schedule core tick
  pub first_there : IsFirstOnCore system run core tick

-- a fault is that of the first core that doesn't execute in each tick what is scheduled
pub record BreaksSchedule (system : System) (run : Run) (fault : RunFault) : Type 0 where
  pub core : ℕ
  pub is_core : core < system.cores
  pub breaks : BreaksCore system run core fault
  pub before : (other t : ℕ) → other < core → t < run.table.ticks → IsScheduleKept system run other t

-- ---- a run

-- the first broken rule of a run: the first fault of its table, or, where the table has none, the first of its schedule
abbrev pub IsFirstBroken : System → Run → RunFault → Type 0
IsFirstBroken system run fault = (first_fault (table_faults system run.table) ≡ Some fault)
    ⊎ ((table_faults system run.table ≡ []) × BreaksSchedule system run fault)

-- the fault is the first broken rule, or want of memory
abbrev pub IsRunFaultOf : System → Run → RunFault → Type 0
IsRunFaultOf system run (Illegal rule place tick) = IsFirstBroken system run (Illegal rule place tick)
IsRunFaultOf system run NoMemory = Unit {0}
