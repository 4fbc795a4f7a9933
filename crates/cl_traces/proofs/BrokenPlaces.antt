-- The first broken rule of a run is that of one of its tasks, or, where its job table is lawful, that of one of its cores.
use Rattle.std.proofs.Common.{◌≡◌, ℕ, zero, suc, ◌+◌, ◌<◌, ◌≤◌, inl, inr, Bool, true, false, Some, List, [], ◌∷◌, ◌++◌, length, ap, subst, arith}
use Rattle.std.specs.Prelude.{unwrap_or}
use Rattle.std.specs.List.{range_with_len, flat_map}
use Rattle.cl_model.specs.declared.{model.SystemModel.SystemModel, stimulus.StimulusKind.StimulusKind}
use Rattle.cl_runs.specs.{declared.job.{Job.Job, JobTable.JobTable}, Pattern.{first_least, first_greatest, least_gap, greatest_gap}, Run.{Run, IsInForm}, SystemOf.system_of, Table.{table_jobs, IsLawful}, TaskTiming.{TimeRange, System, timing_at}}
use Rattle.cl_runs.proofs.ModelSystem.{count_is, cores_are}
use Rattle.cl_check.specs.{declared.run_fault.{Rule.{Rule, TheVariants.{Arrival, Release, Time, Missing, Schedule}}, RunFault.{RunFault, TheVariants.{Illegal, NoMemory}}}, Legality.{fault_unless, first_fault, arrival_faults, release_faults, time_faults, job_faults, faults_from}}
use Rattle.cl_check.specs.Legality.{faults_of_task, table_faults, IsFirstBroken}
use Rattle.cl_check.proofs.LawfulFaults.{faultless_lawful}

-- the rule of a table
abbrev pub IsTableRule : Rule → Type 0
IsTableRule Arrival = Unit {0}
IsTableRule Release = Unit {0}
IsTableRule Time = Unit {0}
IsTableRule Missing = Unit {0}
IsTableRule Schedule = ⊥

-- a fault is of one of the first n tasks, and of a rule of the table
abbrev IsOfTask : ℕ → RunFault → Type 0
IsOfTask n (Illegal rule place tick) = IsTableRule rule × (place < n)
IsOfTask n NoMemory = ⊥

-- what holds of the first fault of a list, where there is one
abbrev FirstIs : (RunFault → Type 0) → List RunFault → Type 0
FirstIs P faults = (fault : RunFault) → first_fault faults ≡ Some fault → P fault

module _ (P : RunFault → Type 0) where
  unless_first : (test : Bool) (fault : RunFault) → P fault → FirstIs P (fault_unless test fault)
  unless_first true fault is = λ found first. cc
  unless_first false fault is = λ found first. subst P (ap (λ o. unwrap_or o fault) first) is

  both_first : (one other : List RunFault) → FirstIs P one → FirstIs P other → FirstIs P (one ++ other)
  both_first [] other first second = second
  both_first (fault ∷ one) other first second = first

module _ (n task : ℕ) (within : task < n) (pattern : StimulusKind) (ranges : List TimeRange) (ticks : ℕ) where
  job_first : (low high : ℕ) (job : Job) → FirstIs (IsOfTask n) (job_faults pattern ranges ticks task low high job)
  job_first low high job =
      both_first (IsOfTask n) (arrival_faults ticks task low high job) (release_faults pattern task job ++ time_faults ranges task job)
      (unless_first (IsOfTask n) _ (Illegal Arrival task job.arrival) (tt, within))
      (both_first (IsOfTask n) (release_faults pattern task job) (time_faults ranges task job)
      (unless_first (IsOfTask n) _ (Illegal Release task job.arrival) (tt, within))
      (unless_first (IsOfTask n) _ (Illegal Time task job.arrival) (tt, within)))

  jobs_first : (jobs : List Job) (k low high : ℕ) → FirstIs (IsOfTask n) (faults_from pattern ranges ticks task k low high jobs)
  jobs_first [] k low high = unless_first (IsOfTask n) _ (Illegal Missing task high) (tt, within)
  jobs_first (job ∷ jobs) k low high =
      both_first (IsOfTask n) (job_faults pattern ranges ticks task low high job)
      (faults_from pattern ranges ticks task (suc k) (job.arrival + least_gap pattern k) (job.arrival + greatest_gap pattern k) jobs)
      (job_first low high job)
      (jobs_first jobs (suc k) (job.arrival + least_gap pattern k) (job.arrival + greatest_gap pattern k))

module _ (system : System) (table : JobTable) where
  task_first : (task : ℕ) → task < length system.tasks → FirstIs (IsOfTask (length system.tasks)) (faults_of_task system table task)
  task_first task within =
      let timing = timing_at system task in
      jobs_first (length system.tasks) task within timing.pattern timing.ranges table.ticks (table_jobs table task) 0
      (first_least timing.pattern) (first_greatest timing.pattern)

  tasks_first : (m a : ℕ) → a + m ≤ length system.tasks
      → FirstIs (IsOfTask (length system.tasks)) (flat_map (faults_of_task system table) (range_with_len a m))
  tasks_first zero a h = λ fault first. cc
  tasks_first (suc m) a h = both_first (IsOfTask (length system.tasks)) (faults_of_task system table a)
      (flat_map (faults_of_task system table) (range_with_len (a + 1) m))
      (task_first a (omega (arith, h))) (tasks_first m (a + 1) (omega (arith, h)))

  of_task : (fault : RunFault) → first_fault (table_faults system table) ≡ Some fault → IsOfTask (length system.tasks) fault
  of_task = tasks_first (length system.tasks) 0 (omega arith)

not_schedule : (rule : Rule) (place tick core t : ℕ) → IsTableRule rule → Illegal rule place tick ≡ Illegal Schedule core t → ⊥
not_schedule Arrival place tick core t of_table is = cc
not_schedule Release place tick core t of_table is = cc
not_schedule Time place tick core t of_table is = cc
not_schedule Missing place tick core t of_table is = cc
not_schedule Schedule place tick core t of_table is = of_table

abbrev place_in : RunFault → ℕ
place_in (Illegal rule place tick) = place
place_in NoMemory = 0

abbrev tick_in : RunFault → ℕ
tick_in (Illegal rule place tick) = tick
tick_in NoMemory = 0

-- the schedule of a core is broken at a tick, with a lawful table
pub record IsOfCore (model : SystemModel) (run : Run) (core tick : ℕ) : Type 0 where
  pub lawful : IsLawful (system_of model) run.table
  pub is_core : core < length model.cores
  pub is_tick : tick < run.table.ticks

module _ (model : SystemModel) (run : Run) where
  pub broken_task : (rule : Rule) (place tick : ℕ) → IsTableRule rule → IsFirstBroken (system_of model) run (Illegal rule place tick)
      → place < length model.tasks
  broken_task rule place tick of_table (inl first) =
      omega (arith, (of_task (system_of model) run.table (Illegal rule place tick) first).1, count_is model)
  broken_task rule place tick of_table (inr broken) =
      absurd (not_schedule rule place tick broken.1.core broken.1.breaks.tick of_table broken.1.breaks.fault_is)

  -- it has jobs in the run
  pub broken_jobs : IsInForm (system_of model) run → (place : ℕ) → place < length model.tasks → place < length run.table.jobs
  broken_jobs in_form place within = omega (arith, within, in_form.tasks, count_is model)

  pub broken_core : (core tick : ℕ) → IsInForm (system_of model) run → IsFirstBroken (system_of model) run (Illegal Schedule core tick)
      → IsOfCore model run core tick
  broken_core core tick in_form (inl first) = absurd (of_task (system_of model) run.table (Illegal Schedule core tick) first).0
  broken_core core tick in_form (inr broken) =
      let breaks = broken.1 in
      let core_is : core ≡ breaks.core = ap place_in breaks.breaks.fault_is in
      let tick_is : tick ≡ breaks.breaks.tick = ap tick_in breaks.breaks.fault_is in
      record {
        lawful = faultless_lawful (system_of model) run.table in_form.tasks broken.0;
        is_core = omega (arith, core_is, breaks.is_core, cores_are model);
        is_tick = omega (arith, tick_is, breaks.breaks.first_there.is_tick);
      }
