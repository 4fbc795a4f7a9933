-- A table has no fault exactly where it is lawful.
use Rattle.std.proofs.Common.{◌≡◌, ℕ, zero, suc, ◌+◌, ◌<◌, ◌≤◌, inl, inr, Bool, true, false, ◌&&◌, nat_le, nat_lt, List, [], ◌∷◌, ◌++◌, length, get_or, refl, sym, ap, ◌∙◌, arith}
use Rattle.std.specs.List.{AllZip, range_with_len, flat_map}
use Rattle.std.proofs.lemmas.Bool.{cases_eq, leb-true, ltb-true, le-leb, lt-ltb}
use Rattle.cl_model.specs.{declared.stimulus.StimulusKind.StimulusKind, Timing.greatest_jitter}
use Rattle.cl_model.proofs.ListFacts.{both_true, both_pass}
use Rattle.cl_runs.specs.{Arrivals.{IsArrival, AreArrivalsFrom}, declared.job.{Job.Job, JobTable.JobTable}, Pattern.{least_gap, greatest_gap}, Table.{LiesIn, table_jobs, IsLawful}, TaskTiming.{TimeRange, System, timing_at}}
use Rattle.cl_check.specs.{declared.run_fault.RunFault.RunFault, Legality.{fault_unless, are_in_range, arrival_faults, release_faults, time_faults, job_faults, faults_from, faults_of_task, table_faults}}

-- ---- tests

passed : (test : Bool) (fault : RunFault) → fault_unless test fault ≡ [] → test ≡ true
passed true fault none = refl
passed false fault none = cc

no_fault : (test : Bool) (fault : RunFault) → test ≡ true → fault_unless test fault ≡ []
no_fault test fault is = ap (λ b. fault_unless b fault) is

neither : (one other : List RunFault) → one ++ other ≡ [] → (one ≡ []) × (other ≡ [])
neither [] other none = (refl, none)
neither (fault ∷ one) other none = cc

none_in_both : (one other : List RunFault) → one ≡ [] → other ≡ [] → one ++ other ≡ []
none_in_both one other none none_other = ap (λ faults. faults ++ other) none ∙ none_other

-- ---- execution times

times_lie : (ranges : List TimeRange) (times : List ℕ) → are_in_range ranges times ≡ true → AllZip LiesIn ranges times
times_lie [] [] is = _
times_lie [] (time ∷ times) is = cc
times_lie (range ∷ ranges) [] is = cc
times_lie (range ∷ ranges) (time ∷ times) is =
    let both = both_pass (nat_le range.least time && nat_le time range.greatest) (are_in_range ranges times) is in
    let here = both_pass (nat_le range.least time) (nat_le time range.greatest) both.0 in
    ((leb-true range.least time here.0, leb-true time range.greatest here.1), times_lie ranges times both.1)

lying_times : (ranges : List TimeRange) (times : List ℕ) → AllZip LiesIn ranges times → are_in_range ranges times ≡ true
lying_times [] [] lie = refl
lying_times [] (time ∷ times) lie = absurd lie
lying_times (range ∷ ranges) [] lie = absurd lie
lying_times (range ∷ ranges) (time ∷ times) lie =
    both_true (nat_le range.least time && nat_le time range.greatest) (are_in_range ranges times)
    (both_true (nat_le range.least time) (nat_le time range.greatest) (le-leb range.least time lie.0.0) (le-leb time range.greatest lie.0.1))
    (lying_times ranges times lie.1)

-- ---- a job

module _ (pattern : StimulusKind) (ranges : List TimeRange) (ticks task low high : ℕ) (job : Job) where
  abbrev IsFine : Type 0
  IsFine = IsArrival pattern ticks low high job × AllZip LiesIn ranges job.times

  fine_job : job_faults pattern ranges ticks task low high job ≡ [] → IsFine
  fine_job none =
      let parts = neither (arrival_faults ticks task low high job) (release_faults pattern task job ++ time_faults ranges task job) none in
      let rest = neither (release_faults pattern task job) (time_faults ranges task job) parts.1 in
      let arrives = both_pass (nat_le low job.arrival && nat_le job.arrival high) (nat_lt job.arrival ticks) (passed _ _ parts.0) in
      let due = both_pass (nat_le low job.arrival) (nat_le job.arrival high) arrives.0 in
      let released = both_pass (nat_le job.arrival job.release) (nat_le job.release (job.arrival + greatest_jitter pattern)) (passed _ _ rest.0) in (
        record {
          not_early = leb-true low job.arrival due.0;
          not_late = leb-true job.arrival high due.1;
          arrives = ltb-true job.arrival ticks arrives.1;
          released = leb-true job.arrival job.release released.0;
          in_jitter = leb-true job.release (job.arrival + greatest_jitter pattern) released.1;
        },
        times_lie ranges job.times (passed _ _ rest.1),
      )

  job_fine : IsArrival pattern ticks low high job → AllZip LiesIn ranges job.times → job_faults pattern ranges ticks task low high job ≡ []
  job_fine arrival times = none_in_both (arrival_faults ticks task low high job) (release_faults pattern task job ++ time_faults ranges task job)
      (no_fault _ _ (both_true (nat_le low job.arrival && nat_le job.arrival high) (nat_lt job.arrival ticks)
      (both_true (nat_le low job.arrival) (nat_le job.arrival high) (le-leb low job.arrival arrival.not_early) (le-leb job.arrival high arrival.not_late))
      (lt-ltb job.arrival ticks arrival.arrives)))
      (none_in_both (release_faults pattern task job) (time_faults ranges task job)
      (no_fault _ _ (both_true (nat_le job.arrival job.release) (nat_le job.release (job.arrival + greatest_jitter pattern))
      (le-leb job.arrival job.release arrival.released) (le-leb job.release (job.arrival + greatest_jitter pattern) arrival.in_jitter)))
      (no_fault _ _ (lying_times ranges job.times times)))

-- ---- the jobs of a task

module _ (pattern : StimulusKind) (ranges : List TimeRange) (ticks task : ℕ) where
  abbrev next_faults : ℕ → Job → List Job → List RunFault
  next_faults k job jobs = faults_from pattern ranges ticks task (suc k) (job.arrival + least_gap pattern k) (job.arrival + greatest_gap pattern k) jobs

  fine_arrivals : (jobs : List Job) (k low high : ℕ) → faults_from pattern ranges ticks task k low high jobs ≡ []
      → AreArrivalsFrom pattern ticks k low high jobs
  fine_arrivals [] k low high none = leb-true ticks high (passed _ _ none)
  fine_arrivals (job ∷ jobs) k low high none =
      let parts = neither (job_faults pattern ranges ticks task low high job) (next_faults k job jobs) none in
      let fine = fine_job pattern ranges ticks task low high job parts.0 in
      (fine.0, fine_arrivals jobs (suc k) _ _ parts.1)

  fine_times : (jobs : List Job) (k low high : ℕ) → faults_from pattern ranges ticks task k low high jobs ≡ []
      → (n : ℕ) (d : Job) → n < length jobs → AllZip LiesIn ranges (get_or jobs n d).times
  fine_times [] k low high none n d h = absurd (omega arith)
  fine_times (job ∷ jobs) k low high none zero d h =
      let parts = neither (job_faults pattern ranges ticks task low high job) (next_faults k job jobs) none in
      let fine = fine_job pattern ranges ticks task low high job parts.0 in
      fine.1
  fine_times (job ∷ jobs) k low high none (suc n) d h =
      let parts = neither (job_faults pattern ranges ticks task low high job) (next_faults k job jobs) none in
      fine_times jobs (suc k) _ _ parts.1 n d (omega arith)

  jobs_fine : (jobs : List Job) (k low high : ℕ) → AreArrivalsFrom pattern ticks k low high jobs
      → ((n : ℕ) (d : Job) → n < length jobs → AllZip LiesIn ranges (get_or jobs n d).times)
      → faults_from pattern ranges ticks task k low high jobs ≡ []
  jobs_fine [] k low high arrivals times = no_fault _ _ (le-leb ticks high arrivals)
  jobs_fine (job ∷ jobs) k low high arrivals times =
      none_in_both (job_faults pattern ranges ticks task low high job) (next_faults k job jobs)
      (job_fine pattern ranges ticks task low high job arrivals.0 (times 0 job (omega arith)))
      (jobs_fine jobs (suc k) _ _ arrivals.1 (λ n d h. times (suc n) d (omega arith)))

-- ---- the tasks

fine_tasks : (faults_of : ℕ → List RunFault) (n a : ℕ) → flat_map faults_of (range_with_len a n) ≡ [] → (i : ℕ) → a ≤ i → i < a + n → faults_of i ≡ []
fine_tasks faults_of zero a none i above below = absurd (omega arith)
fine_tasks faults_of (suc n) a none i above below =
    let parts = neither (faults_of a) (flat_map faults_of (range_with_len (a + 1) n)) none in
    elim (cases_eq a i) [
      | inl same ↦ ap faults_of (sym same) ∙ parts.0
      | inr apart ↦ fine_tasks faults_of n (a + 1) parts.1 i (omega (arith, above, apart)) (omega (arith, below))
    ]

tasks_fine : (faults_of : ℕ → List RunFault) (n a : ℕ) → ((i : ℕ) → a ≤ i → i < a + n → faults_of i ≡ []) → flat_map faults_of (range_with_len a n) ≡ []
tasks_fine faults_of zero a fine = refl
tasks_fine faults_of (suc n) a fine = none_in_both (faults_of a) (flat_map faults_of (range_with_len (a + 1) n))
    (fine a (omega arith) (omega arith))
    (tasks_fine faults_of n (a + 1) (λ i above below. fine i (omega (arith, above)) (omega (arith, below))))

module _ (system : System) (table : JobTable) (tasks : length table.jobs ≡ length system.tasks) where
  pub faultless_lawful : table_faults system table ≡ [] → IsLawful system table
  faultless_lawful none = record {
    tasks = tasks;
    jobs = λ i is.
        let fine = fine_tasks (faults_of_task system table) (length system.tasks) 0 none i (omega arith) (omega (arith, is)) in
        record {
          arrivals = fine_arrivals (timing_at system i).pattern (timing_at system i).ranges table.ticks i (table_jobs table i) 0 _ _ fine;
          times = λ n d h. fine_times (timing_at system i).pattern (timing_at system i).ranges table.ticks i (table_jobs table i) 0 _ _ fine n d h;
        };
  }

  pub lawful_faultless : IsLawful system table → table_faults system table ≡ []
  lawful_faultless lawful = tasks_fine (faults_of_task system table) (length system.tasks) 0 (λ i above below.
      let jobs = lawful.jobs i (omega (arith, below)) in
      jobs_fine (timing_at system i).pattern (timing_at system i).ranges table.ticks i (table_jobs table i) 0 _ _ jobs.arrivals
      (λ n d h. jobs.times n d h))
