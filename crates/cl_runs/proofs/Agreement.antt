-- Where one legal run goes on from another, their moments agree up to the end of the shorter one.
use Rattle.std.proofs.Common.{◌≡◌, ℕ, suc, ◌<◌, ◌≤◌, inl, inr, Option, Some, None, List, length, get_or, take, sym, ap, ◌∙◌, arith}
use Rattle.std.proofs.lemmas.Bool.{cases_lt}
use Rattle.std.proofs.lemmas.List.{take-take, get_or-take}
use Rattle.cl_model.specs.declared.task.AccessKind.{AccessKind, TheVariants.{Explicit, Implicit, Timed}}
use Rattle.cl_runs.specs.{TaskTiming.{System, timing_at, IsSound}, declared.job.Job.Job, Table.job_at, Run.{Run, jobs_of, core_entries, entry_at, executed}, Legal.IsLegal, Work.{work_before, work_through}, Moments.{Starts, Finishes, ReadsBy, WritesBy, Reads, Writes}, GoesOn.GoesOn}
use Rattle.cl_runs.proofs.{Executed.{executed_same, executed_more}, Work.{job_along, work_along, through_along, before_further, first_length}, LegalFacts.{place_of_task, core_ticks, executed_total, time_positive}}

-- executed ticks and entries agree
module _ (system : System) (shorter longer : Run) (goes_on : GoesOn shorter longer) (i : ℕ) where
  pub executed_agree : (t : ℕ) → t ≤ shorter.table.ticks → executed system shorter i t ≡ executed system longer i t
  executed_agree t h = executed_same system shorter longer i t (ap (take t) (goes_on.entries (timing_at system i).core)
      ∙ take-take t shorter.table.ticks (core_entries longer (timing_at system i).core) h)

  pub entry_agree : (core t : ℕ) → t < shorter.table.ticks → entry_at shorter core t ≡ entry_at longer core t
  entry_agree core t h = ap (λ (xs : List (Option ℕ)). get_or xs t None) (goes_on.entries core)
      ∙ get_or-take shorter.table.ticks (core_entries longer core) t None h

  pub job_kept : (k : ℕ) → k < length (jobs_of shorter i) → k < length (jobs_of longer i)
  job_kept k h = omega (arith, h, first_length _ _ _ (goes_on.first_jobs i))

  pub arrival_kept : (k : ℕ) → k < length (jobs_of shorter i) → (job_at (jobs_of shorter i) k).arrival ≡ (job_at (jobs_of longer i) k).arrival
  arrival_kept k h = ap (λ (job : Job). job.arrival) (job_along _ _ _ (goes_on.first_jobs i) k h)

  pub before_kept : (k p : ℕ) → k < length (jobs_of shorter i) → work_before (jobs_of shorter i) k p ≡ work_before (jobs_of longer i) k p
  before_kept k p h = work_along _ _ _ (goes_on.first_jobs i) k p h

  pub through_kept : (k p : ℕ) → k < length (jobs_of shorter i) → work_through (jobs_of shorter i) k p ≡ work_through (jobs_of longer i) k p
  through_kept k p h = through_along _ _ _ (goes_on.first_jobs i) k p h

  -- what starts or finishes in the shorter run does so in the longer
  pub starts_kept : (k p t : ℕ) → Starts system shorter i k p t → Starts system longer i k p t
  starts_kept k p t starts = record {
    in_table = job_kept k starts.in_table;
    is_runnable = starts.is_runnable;
    below_end = omega (arith, starts.below_end, goes_on.ticks);
    reached = omega (arith, starts.reached, executed_agree t (omega (arith, starts.below_end)), before_kept k p starts.in_table);
    runs = sym (entry_agree (timing_at system i).core t starts.below_end) ∙ starts.runs;
  }

  pub finishes_kept : (k p t : ℕ) → Finishes system shorter i k p t → Finishes system longer i k p t
  finishes_kept k p t finishes = record {
    in_table = job_kept k finishes.in_table;
    is_runnable = finishes.is_runnable;
    by_end = omega (arith, finishes.by_end, goes_on.ticks);
    reached = omega (arith, finishes.reached, executed_agree t finishes.by_end, through_kept k p finishes.in_table);
    least = λ s is. elim (cases_lt s t) [
      | inl before ↦ finishes.least s (omega (arith, is, executed_agree s (omega (arith, before, finishes.by_end)), through_kept k p finishes.in_table))
      | inr after ↦ after
    ];
  }

  read_kept : (a : AccessKind) (k p t : ℕ) → k < length (jobs_of shorter i) → ReadsBy a system shorter i k p t → ReadsBy a system longer i k p t
  read_kept Explicit k p t job starts = starts_kept k p t starts
  read_kept Implicit k p t job starts = starts_kept k 0 t starts
  read_kept Timed k p t job arrives = arrives ∙ arrival_kept k job

  write_kept : (a : AccessKind) (k p t : ℕ) → k < length (jobs_of shorter i) → WritesBy a system shorter i k p t → WritesBy a system longer i k p t
  write_kept Explicit k p t job finishes = finishes_kept k p t finishes
  write_kept Implicit k p t job finishes = finishes_kept k _ t finishes
  write_kept Timed k p t job writes = record {
    finish = writes.finish;
    finishes = finishes_kept k _ writes.finish writes.finishes;
    in_time = writes.in_time;
    at_deadline = omega (arith, writes.at_deadline, arrival_kept k job);
    by_end = omega (arith, writes.by_end, goes_on.ticks);
  }

  pub reads_kept : (k p t : ℕ) → Reads system shorter i k p t → Reads system longer i k p t
  reads_kept k p t reads = record {
    in_table = job_kept k reads.in_table;
    is_runnable = reads.is_runnable;
    moment = read_kept (timing_at system i).access k p t reads.in_table reads.moment;
  }

  pub writes_kept : (k p t : ℕ) → Writes system shorter i k p t → Writes system longer i k p t
  writes_kept k p t writes = record {
    in_table = job_kept k writes.in_table;
    is_runnable = writes.is_runnable;
    moment = write_kept (timing_at system i).access k p t writes.in_table writes.moment;
  }

-- what starts, finishes, reads or writes in the longer run up to the end of the shorter does so in the shorter
module _ (system : System) (sound : IsSound system) (shorter longer : Run) (legal : IsLegal system shorter) (legal_longer : IsLegal system longer)
    (goes_on : GoesOn shorter longer) (i : ℕ) (is : i < length system.tasks) where
  job_of_start : (k p t : ℕ) → Starts system longer i k p t → t < shorter.table.ticks → k < length (jobs_of shorter i)
  job_of_start k p t starts h = elim (cases_lt k (length (jobs_of shorter i))) [
    | inl job ↦ job
    | inr further ↦
        let runs : entry_at shorter (timing_at system i).core t ≡ Some i = entry_agree system shorter longer goes_on i (timing_at system i).core t h ∙ starts.runs in
        absurd (omega (
          arith,
          executed_more system shorter i t (omega (arith, h, core_ticks system sound shorter legal i is)) runs,
          executed_agree system shorter longer goes_on i t (omega arith),
          starts.reached,
          before_further (jobs_of shorter i) (jobs_of longer i) (goes_on.first_jobs i) k p further,
          executed_total system sound shorter legal i is (suc t),
        ))
  ]

  pub starts_back : (k p t : ℕ) → Starts system longer i k p t → t < shorter.table.ticks → Starts system shorter i k p t
  starts_back k p t starts h =
      let job = job_of_start k p t starts h in
      record {
        in_table = job;
        is_runnable = starts.is_runnable;
        below_end = h;
        reached = omega (arith, starts.reached, executed_agree system shorter longer goes_on i t (omega arith), before_kept system shorter longer goes_on i k p job);
        runs = entry_agree system shorter longer goes_on i (timing_at system i).core t h ∙ starts.runs;
      }

  job_of_finish : (k p t : ℕ) → Finishes system longer i k p t → t ≤ shorter.table.ticks → k < length (jobs_of shorter i)
  job_of_finish k p t finishes h = elim (cases_lt k (length (jobs_of shorter i))) [
    | inl job ↦ job
    | inr further ↦ absurd (omega (
      arith,
      executed_agree system shorter longer goes_on i t h,
      finishes.reached,
      before_further (jobs_of shorter i) (jobs_of longer i) (goes_on.first_jobs i) k p further,
      time_positive system sound longer legal_longer i is k p finishes.in_table finishes.is_runnable,
      executed_total system sound shorter legal i is t,
    ))
  ]

  pub finishes_back : (k p t : ℕ) → Finishes system longer i k p t → t ≤ shorter.table.ticks → Finishes system shorter i k p t
  finishes_back k p t finishes h =
      let job = job_of_finish k p t finishes h in
      let through = through_kept system shorter longer goes_on i k p job in
      record {
        in_table = job;
        is_runnable = finishes.is_runnable;
        by_end = h;
        reached = omega (arith, finishes.reached, executed_agree system shorter longer goes_on i t h, through);
        least = λ s same. elim (cases_lt s t) [
          | inl before ↦ finishes.least s (omega (arith, same, executed_agree system shorter longer goes_on i s (omega (arith, before, h)), through))
          | inr after ↦ after
        ];
      }

  job_of_arrival : (k : ℕ) → k < length (jobs_of longer i) → (job_at (jobs_of longer i) k).arrival < shorter.table.ticks → k < length (jobs_of shorter i)
  job_of_arrival k h early = elim (cases_lt k (length (jobs_of shorter i))) [
    | inl job ↦ job
    | inr further ↦ absurd (omega (arith, early, goes_on.later_jobs i k further h))
  ]

  job_of_read : (a : AccessKind) (k p t : ℕ) → k < length (jobs_of longer i) → ReadsBy a system longer i k p t → t < shorter.table.ticks
      → k < length (jobs_of shorter i)
  job_of_read Explicit k p t job starts h = job_of_start k p t starts h
  job_of_read Implicit k p t job starts h = job_of_start k 0 t starts h
  job_of_read Timed k p t job arrives h = job_of_arrival k job (omega (arith, arrives, h))

  read_back : (a : AccessKind) (k p t : ℕ) → k < length (jobs_of longer i) → ReadsBy a system longer i k p t → t < shorter.table.ticks
      → ReadsBy a system shorter i k p t
  read_back Explicit k p t job starts h = starts_back k p t starts h
  read_back Implicit k p t job starts h = starts_back k 0 t starts h
  read_back Timed k p t job arrives h =
      arrives ∙ sym (arrival_kept system shorter longer goes_on i k (job_of_arrival k job (omega (arith, arrives, h))))

  job_of_write : (a : AccessKind) (k p t : ℕ) → k < length (jobs_of longer i) → WritesBy a system longer i k p t → t ≤ shorter.table.ticks
      → k < length (jobs_of shorter i)
  job_of_write Explicit k p t job finishes h = job_of_finish k p t finishes h
  job_of_write Implicit k p t job finishes h = job_of_finish k _ t finishes h
  job_of_write Timed k p t job writes h = job_of_arrival k job (omega (arith, writes.at_deadline, h, (sound.tasks i is).above_jitter))

  write_back : (a : AccessKind) (k p t : ℕ) → k < length (jobs_of longer i) → WritesBy a system longer i k p t → t ≤ shorter.table.ticks
      → WritesBy a system shorter i k p t
  write_back Explicit k p t job finishes h = finishes_back k p t finishes h
  write_back Implicit k p t job finishes h = finishes_back k _ t finishes h
  write_back Timed k p t job writes h = record {
    finish = writes.finish;
    finishes = finishes_back k _ writes.finish writes.finishes (omega (arith, writes.in_time, h));
    in_time = writes.in_time;
    at_deadline = omega (
      arith,
      writes.at_deadline,
      arrival_kept system shorter longer goes_on i k (job_of_arrival k job (omega (arith, writes.at_deadline, h, (sound.tasks i is).above_jitter))),
    );
    by_end = h;
  }

module _ (system : System) (sound : IsSound system) (shorter longer : Run) (legal : IsLegal system shorter) (legal_longer : IsLegal system longer)
    (goes_on : GoesOn shorter longer) (i : ℕ) where
  pub start_returns : (k p t : ℕ) → Starts system longer i k p t → t < shorter.table.ticks → Starts system shorter i k p t
  start_returns k p t starts h =
      starts_back system sound shorter longer legal legal_longer goes_on i (place_of_task system i p starts.is_runnable) k p t starts h

  pub finish_returns : (k p t : ℕ) → Finishes system longer i k p t → t ≤ shorter.table.ticks → Finishes system shorter i k p t
  finish_returns k p t finishes h =
      finishes_back system sound shorter longer legal legal_longer goes_on i (place_of_task system i p finishes.is_runnable) k p t finishes h

  pub read_returns : (k p t : ℕ) → Reads system longer i k p t → t < shorter.table.ticks → Reads system shorter i k p t
  read_returns k p t reads h =
      let is = place_of_task system i p reads.is_runnable in
      record {
        in_table = job_of_read system sound shorter longer legal legal_longer goes_on i is (timing_at system i).access k p t reads.in_table reads.moment h;
        is_runnable = reads.is_runnable;
        moment = read_back system sound shorter longer legal legal_longer goes_on i is (timing_at system i).access k p t reads.in_table reads.moment h;
      }

  pub write_returns : (k p t : ℕ) → Writes system longer i k p t → t ≤ shorter.table.ticks → Writes system shorter i k p t
  write_returns k p t writes h =
      let is = place_of_task system i p writes.is_runnable in
      record {
        in_table = job_of_write system sound shorter longer legal legal_longer goes_on i is (timing_at system i).access k p t writes.in_table writes.moment h;
        is_runnable = writes.is_runnable;
        moment = write_back system sound shorter longer legal legal_longer goes_on i is (timing_at system i).access k p t writes.in_table writes.moment h;
      }
