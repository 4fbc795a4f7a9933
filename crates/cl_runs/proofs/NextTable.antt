-- The job table for one more tick: it is lawful, with the old jobs as its first ones.
use Rattle.std.proofs.Common.{◌≡◌, ℕ, suc, ◌<◌, ◌≤◌, List, [], length, get_or, take, map, refl, sym, ap, ◌∙◌, subst, arith}
use Rattle.std.specs.List.{range_with_len}
use Rattle.std.proofs.lemmas.List.{get_or_past}
use Rattle.std.proofs.lemmas.List.FromFn.{length-map-range_with_len, get_or-map-range_with_len}
use Rattle.cl_runs.specs.{Pattern.first_greatest, TaskTiming.{System, timing_at, IsSound}, declared.job.{Job.Job, JobTable.JobTable}, Table.{no_job, job_at, table_jobs, AreLawfulJobs, IsLawful}, Legal.released}
use Rattle.cl_runs.proofs.{LawfulJobs.times_length, DueJobs.{with_due, with_due_lawful, with_due_first, with_due_later, with_due_released}}

-- a list made from a function of the number
pub listed : {A : Type 0} → (ℕ → A) → ℕ → List A
listed f n = map f (range_with_len 0 n)

pub length-listed : {A : Type 0} (f : ℕ → A) (n : ℕ) → length (listed f n) ≡ n
unfolding listed
length-listed f n = length-map-range_with_len f 0 n

pub get_or-listed : {A : Type 0} (f : ℕ → A) (n i : ℕ) (d : A) → i < n → get_or (listed f n) i d ≡ f i
unfolding listed
get_or-listed f n i d h = get_or-map-range_with_len f 0 n i i d h (omega arith)

pub get_or-listed_past : {A : Type 0} (f : ℕ → A) (n i : ℕ) (d : A) → n ≤ i → get_or (listed f n) i d ≡ d
get_or-listed_past f n i d h = get_or_past (listed f n) i d (omega (arith, length-listed f n))

-- a lawful table has one time per runnable in each job
pub lawful_times : (system : System) (table : JobTable) → IsLawful system table → (i k : ℕ) → i < length system.tasks
    → k < length (table_jobs table i) → length (job_at (table_jobs table i) k).times ≡ length (timing_at system i).ranges
lawful_times system table lawful i k is h =
    times_length (timing_at system i) (job_at (table_jobs table i) k) ((lawful.jobs i is).times k no_job h)

-- the table for one more tick
next_jobs : System → JobTable → ℕ → List Job
next_jobs system table i = with_due (timing_at system i) table.ticks 0 (first_greatest (timing_at system i).pattern) (table_jobs table i)

pub next_table : System → JobTable → JobTable
next_table system table = record { ticks = suc table.ticks; jobs = listed (next_jobs system table) (length system.tasks) }

module _ (system : System) (table : JobTable) where
  pub next_ticks : (next_table system table).ticks ≡ suc table.ticks
  unfolding next_table
  next_ticks = refl

  pub next_tasks : length (next_table system table).jobs ≡ length system.tasks
  unfolding next_table
  next_tasks = length-listed (next_jobs system table) (length system.tasks)

  next_jobs_at : (i : ℕ) → i < length system.tasks → table_jobs (next_table system table) i ≡ next_jobs system table i
  unfolding next_table
  next_jobs_at i h = get_or-listed (next_jobs system table) (length system.tasks) i [] h

  pub no_next_jobs : (i : ℕ) → length system.tasks ≤ i → table_jobs (next_table system table) i ≡ []
  unfolding next_table
  no_next_jobs i h = get_or-listed_past (next_jobs system table) (length system.tasks) i [] h

  pub next_lawful : IsSound system → IsLawful system table → IsLawful system (next_table system table)
  unfolding next_jobs
  next_lawful sound lawful = record {
    tasks = next_tasks;
    jobs = λ i is. subst (λ n. AreLawfulJobs (timing_at system i) n (table_jobs (next_table system table) i)) (sym next_ticks)
        (subst (λ (jobs : List Job). AreLawfulJobs (timing_at system i) (suc table.ticks) jobs) (sym (next_jobs_at i is))
        (with_due_lawful system.cores (timing_at system i) (sound.tasks i is) table.ticks (table_jobs table i) (lawful.jobs i is)));
  }

  pub next_released : (i t : ℕ) → i < length system.tasks → t < table.ticks
      → released (table_jobs table i) t ≡ released (table_jobs (next_table system table) i) t
  unfolding next_jobs
  next_released i t is h = sym (ap (λ (jobs : List Job). released jobs t) (next_jobs_at i is)
      ∙ with_due_released (timing_at system i) table.ticks (table_jobs table i) 0 _ t h)

  pub next_first : (i : ℕ) → i < length system.tasks → table_jobs table i ≡ take (length (table_jobs table i)) (table_jobs (next_table system table) i)
  unfolding next_jobs
  next_first i is = with_due_first (timing_at system i) table.ticks (table_jobs table i) 0 _
      ∙ ap (take (length (table_jobs table i))) (sym (next_jobs_at i is))

  pub next_later : (i k : ℕ) → i < length system.tasks → length (table_jobs table i) ≤ k → k < length (table_jobs (next_table system table) i)
      → table.ticks ≤ (job_at (table_jobs (next_table system table) i) k).arrival
  unfolding next_jobs
  next_later i k is past h =
      subst (λ (jobs : List Job). k < length jobs → table.ticks ≤ (job_at jobs k).arrival) (sym (next_jobs_at i is))
      (λ below. with_due_later (timing_at system i) table.ticks (table_jobs table i) 0 _ k past below) h
