-- What is seen of a task in a run is so in the legal run that it shows. Times are in ticks.
use Rattle.std.proofs.Common.{◌≡◌, ℕ, ◌+◌, ◌-◌, ◌<◌, ◌≤◌, Option, Some, None, List, length, get_or, ap, subst, arith}
use Rattle.cl_model.specs.{declared.model.SystemModel.SystemModel, ByNumber.deadline_of, Validity.IsValid}
use Rattle.cl_runs.specs.{declared.job.Job.Job, TaskTiming.{Timing, timing_at}, SystemOf.system_of, Table.job_at, Run.{Run, jobs_of}, Moments.JobFinishes}
use Rattle.cl_runs.proofs.{ModelSystem.{timing_is, count_is, system_sound}, StartsFinishes.finishes_once, RunArrivals.released_late, JobProgress.finishes_late, Work.places_rise}
use Rattle.cl_run_data.specs.Parts.{ShowsTask}
use Rattle.cl_run_data.proofs.{AlikeRuns.alike_back, AlikeMoments.{jobs_alike, job_finishes_alike}}
use Rattle.cl_check.specs.{declared.job_ends.End.TheVariants.Finish, JobMoments.{IsMomentOf, AreEndsOfJobs}}
use Rattle.cl_near.specs.{declared.task_seen.SeenOfTask.SeenOfTask, Seen.{time_due, MissesDeadline, TakesSoLong, IsSeenOfTask}, Inner.SeenJobs.{IsMissed, IsSeenOfJobs}}

module _ (model : SystemModel) (valid : IsValid model) (task : ℕ) (is : task < length model.tasks) (run : Run)
    (shows : ShowsTask (system_of model) task run) where
  known : task < length (system_of model).tasks
  known = omega (arith, is, count_is model)

  jobs_same : jobs_of run task ≡ jobs_of shows.whole task
  jobs_same = jobs_alike (system_of model) task run shows.whole shows.alike known

  arrival_same : (job : ℕ) → (job_at (jobs_of run task) job).arrival ≡ (job_at (jobs_of shows.whole task) job).arrival
  arrival_same job = ap (λ (jobs : List Job). (job_at jobs job).arrival) jobs_same

  finish_of_whole : (job finish : ℕ) → JobFinishes (system_of model) run task job finish → JobFinishes (system_of model) shows.whole task job finish
  finish_of_whole = job_finishes_alike (system_of model) task run shows.whole shows.alike

  finish_of_part : (job finish : ℕ) → JobFinishes (system_of model) shows.whole task job finish → JobFinishes (system_of model) run task job finish
  finish_of_part = job_finishes_alike (system_of model) task shows.whole run
      (alike_back (system_of model) (timing_at (system_of model) task).core run shows.whole shows.alike)

  due_same : (job deadline : ℕ) → deadline ≡ deadline_of model task
      → time_due model shows.whole task job ≡ (job_at (jobs_of run task) job).arrival + deadline
  due_same job deadline given = omega (arith, arrival_same job, given, ap (λ (t : Timing). t.deadline) (timing_is model task is))

  -- ---- a deadline that is missed

  due_passed : (job due : ℕ) (found : Option ℕ) → IsMomentOf (JobFinishes (system_of model) run task job) found → IsMissed due run.table.ticks found
      → (due ≤ run.table.ticks) × ((finish : ℕ) → JobFinishes (system_of model) run task job finish → due < finish)
  due_passed job due None none missed = (missed, λ finish finishes. absurd (none finish finishes))
  due_passed job due (Some at) finishes missed = (
    omega (arith, finishes.by_end, missed),
    λ finish again. omega (arith, finishes_once (system_of model) run task job _ at finish finishes again, missed),
  )

  missed_whole : (job deadline : ℕ) (found : Option ℕ) → job < length (jobs_of run task) → deadline ≡ deadline_of model task
      → IsMomentOf (JobFinishes (system_of model) run task job) found
      → IsMissed ((job_at (jobs_of run task) job).arrival + deadline) run.table.ticks found → MissesDeadline model task
  missed_whole job deadline found within given ends missed =
      let (lasts, later) = due_passed job ((job_at (jobs_of run task) job).arrival + deadline) found ends missed in
      let due = due_same job deadline given in
      record {
        run = shows.whole;
        legal = shows.legal;
        job = job;
        in_table = omega (arith, within, ap length jobs_same);
        lasts = omega (arith, due, lasts, shows.alike.ticks);
        unfinished = λ finish finishes. omega (arith, due, later finish (finish_of_part job finish finishes));
      }

  -- ---- a response

  finish_after_arrival : (job finish : ℕ) → JobFinishes (system_of model) shows.whole task job finish
      → (job_at (jobs_of shows.whole task) job).arrival ≤ finish
  finish_after_arrival job finish finishes =
      let sound = system_sound model valid in
      omega (
        arith,
        released_late (system_of model) sound shows.whole shows.legal task known job finishes.in_table,
        finishes_late (system_of model) sound shows.whole shows.legal task known job _ finish finishes,
        places_rise (jobs_of shows.whole task) job 0 (length (timing_at (system_of model) task).ranges - 1) (omega arith),
      )

  response_whole : (job finish ticks : ℕ) → JobFinishes (system_of model) run task job finish
      → finish - (job_at (jobs_of run task) job).arrival ≡ ticks → TakesSoLong model task ticks
  response_whole job finish ticks finishes taken =
      let in_whole = finish_of_whole job finish finishes in
      let same : finish ≡ (job_at (jobs_of shows.whole task) job).arrival + ticks
      = omega (arith, taken, arrival_same job, finish_after_arrival job finish in_whole) in
      record {
        run = shows.whole;
        legal = shows.legal;
        job = job;
        finishes = subst (λ n. JobFinishes (system_of model) shows.whole task job n) same in_whole;
      }

  -- ---- what is seen of the jobs

  pub seen_is_so : (finishes : List (Option ℕ)) (deadline ticks : ℕ) (seen : SeenOfTask)
      → AreEndsOfJobs Finish (system_of model) run task (length (timing_at (system_of model) task).ranges - 1) finishes
      → deadline ≡ deadline_of model task → ticks ≡ run.table.ticks
      → IsSeenOfJobs (jobs_of run task) finishes deadline ticks seen → IsSeenOfTask model task seen
  seen_is_so finishes deadline ticks seen ends given end of_jobs = record {
    missed = λ which.
        let one = of_jobs.missed which in
        missed_whole one.job deadline (get_or finishes one.job None) one.in_table given (ends.each one.job (omega (arith, one.in_table, ends.one_a_job)))
        (subst (λ n. IsMissed ((job_at (jobs_of run task) one.job).arrival + deadline) n (get_or finishes one.job None)) end one.missed);
    response = λ response which.
        let one = of_jobs.response response which in
        response_whole one.job one.taken.finish response
        (subst (λ (found : Option ℕ). IsMomentOf (JobFinishes (system_of model) run task one.job) found) one.taken.found_is
        (ends.each one.job (omega (arith, one.in_table, ends.one_a_job))))
        one.taken.ticks_are;
  }
