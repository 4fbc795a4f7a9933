-- The jobs of a table that is lawful at a core, of its tasks in a sound system: each takes time, and they are released in
-- order.
use Rattle.std.proofs.Common.{◌≡◌, ℕ, ◌<◌, ◌≤◌, inl, inr, Bool, true, List, length, ap, ◌∙◌, subst, arith}
use Rattle.std.proofs.lemmas.Bool.{cases_lt}
use Rattle.cl_runs.specs.{TaskTiming.{System, timing_at, IsSound}, declared.job.JobTable.JobTable, Table.{no_job, job_at, table_jobs, HasTimes, IsLawful}}
use Rattle.cl_runs.proofs.ArrivalFacts as facts
use Rattle.cl_runs.proofs.LawfulJobs.{times_length, times_positive}
use Rattle.cl_run_data.specs.Parts.{is_among, IsLawfulOn}
use Rattle.cl_sched.specs.{Inner.TakingTime.TakeTime, CoreProgress.IsLawfulAt}

-- a lawful table is lawful at each core
pub lawful_at : (system : System) (core : ℕ) (table : JobTable) → IsLawful system table → IsLawfulAt system core table
lawful_at system core table lawful = record { tasks = lawful.tasks; jobs = λ task is on. lawful.jobs task is }

-- and one that is lawful on some cores at each of these
pub lawful_at_among : (system : System) (cores : List Bool) (core : ℕ) (table : JobTable) → IsLawfulOn system cores table
    → is_among cores core ≡ true → IsLawfulAt system core table
lawful_at_among system cores core table lawful among = record {
  tasks = lawful.tasks;
  jobs = λ task is on. lawful.jobs task is (ap (is_among cores) on ∙ among);
}

-- lawful at the core of a task, by another name of that core
pub lawful_there : (system : System) (core other : ℕ) (table : JobTable) → core ≡ other → IsLawfulAt system core table → IsLawfulAt system other table
lawful_there system core other table same lawful = subst (λ c. IsLawfulAt system c table) same lawful

module _ (system : System) (sound : IsSound system) (core : ℕ) (table : JobTable) (lawful : IsLawfulAt system core table) (i : ℕ)
    (is : i < length system.tasks) (on : (timing_at system i).core ≡ core) where
  times : (k : ℕ) → k < length (table_jobs table i) → HasTimes (timing_at system i) (job_at (table_jobs table i) k)
  times k h = (lawful.jobs i is on).times k no_job h

  -- a job has one time per runnable
  pub places : (k : ℕ) → k < length (table_jobs table i) → length (job_at (table_jobs table i) k).times ≡ length (timing_at system i).ranges
  places k h = times_length (timing_at system i) (job_at (table_jobs table i) k) (times k h)

  pub take_time : TakeTime (table_jobs table i)
  take_time = record {
    some = λ k h. omega (arith, places k h, (sound.tasks i is).some_runnable);
    ticks = λ k p h place. times_positive system.cores (timing_at system i) (sound.tasks i is) (job_at (table_jobs table i) k) (times k h) p
        (omega (arith, place, places k h));
  }

  -- no job is released after a later one
  pub in_order : (k l : ℕ) → k ≤ l → l < length (table_jobs table i)
      → (job_at (table_jobs table i) k).release ≤ (job_at (table_jobs table i) l).release
  in_order k l h below =
      let task = sound.tasks i is in
      let follow = (lawful.jobs i is on).arrivals in
      elim (cases_lt k l) [
        | inl earlier ↦ omega (
          arith,
          facts.released_within (timing_at system i).pattern table.ticks (table_jobs table i) follow k (omega arith),
          task.above_jitter,
          task.within_distance,
          facts.arrivals_apart (timing_at system i).pattern task.pattern table.ticks (table_jobs table i) follow k l earlier below,
          facts.released_late (timing_at system i).pattern table.ticks (table_jobs table i) follow l below,
        )
        | inr same ↦ let one : k ≡ l = omega arith in omega (arith, ap (λ n. (job_at (table_jobs table i) n).release) one)
      ]
