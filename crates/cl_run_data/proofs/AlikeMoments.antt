-- Two runs that are alike on the core of a task have the same moments of it: what it starts, finishes, reads or writes in
-- one it does in the other. (For the other way take `alike_back`, of AlikeRuns.)
use Rattle.std.proofs.Common.{◌≡◌, ℕ, ◌-◌, ◌<◌, List, length, refl, sym, ap, ◌∙◌, arith}
use Rattle.cl_model.specs.declared.task.AccessKind.{AccessKind, TheVariants.{Explicit, Implicit, Timed}}
use Rattle.cl_runs.specs.{declared.job.Job.Job, TaskTiming.{System, timing_at}, Table.job_at, Work.{work_before, work_through}, Run.{Run, jobs_of, executed}, Moments.{Starts, Finishes, JobFinishes, WritesAtDeadline, ReadsBy, WritesBy, Reads, Writes}}
use Rattle.cl_runs.proofs.LegalFacts.{place_of_task}
use Rattle.cl_run_data.specs.Parts.{AreAlikeOn}
use Rattle.cl_run_data.proofs.AlikeRuns.{entry_alike, executed_alike}

module _ (system : System) (task : ℕ) (one other : Run) (alike : AreAlikeOn system (timing_at system task).core one other) where
  -- ---- jobs and executed ticks

  pub jobs_alike : task < length system.tasks → jobs_of one task ≡ jobs_of other task
  jobs_alike is = alike.jobs task is refl

  done_alike : (moment : ℕ) → executed system one task moment ≡ executed system other task moment
  done_alike moment = executed_alike system (timing_at system task).core one other alike task moment refl

  jobs_of_place : (place : ℕ) → place < length (timing_at system task).ranges → jobs_of one task ≡ jobs_of other task
  jobs_of_place place h = jobs_alike (place_of_task system task place h)

  before_alike : (job place : ℕ) → jobs_of one task ≡ jobs_of other task → work_before (jobs_of one task) job place ≡ work_before (jobs_of other task) job place
  before_alike job place same = ap (λ (jobs : List Job). work_before jobs job place) same

  through_alike : (job place : ℕ) → jobs_of one task ≡ jobs_of other task → work_through (jobs_of one task) job place ≡ work_through (jobs_of other task) job place
  through_alike job place same = ap (λ (jobs : List Job). work_through jobs job place) same

  pub arrival_alike : task < length system.tasks → (job : ℕ) → (job_at (jobs_of one task) job).arrival ≡ (job_at (jobs_of other task) job).arrival
  arrival_alike is job = ap (λ (jobs : List Job). (job_at jobs job).arrival) (jobs_alike is)

  job_alike : (job : ℕ) → jobs_of one task ≡ jobs_of other task → job < length (jobs_of one task) → job < length (jobs_of other task)
  job_alike job same h = omega (arith, h, ap length same)

  -- ---- moments

  pub starts_alike : (job place moment : ℕ) → Starts system one task job place moment → Starts system other task job place moment
  starts_alike job place moment starts =
      let same = jobs_of_place place starts.is_runnable in
      record {
        in_table = job_alike job same starts.in_table;
        is_runnable = starts.is_runnable;
        below_end = omega (arith, starts.below_end, alike.ticks);
        reached = sym (done_alike moment) ∙ starts.reached ∙ before_alike job place same;
        runs = sym (entry_alike system _ one other alike moment) ∙ starts.runs;
      }

  pub finishes_alike : (job place moment : ℕ) → Finishes system one task job place moment → Finishes system other task job place moment
  finishes_alike job place moment finishes =
      let same = jobs_of_place place finishes.is_runnable in
      record {
        in_table = job_alike job same finishes.in_table;
        is_runnable = finishes.is_runnable;
        by_end = omega (arith, finishes.by_end, alike.ticks);
        reached = sym (done_alike moment) ∙ finishes.reached ∙ through_alike job place same;
        least = λ s is. finishes.least s (done_alike s ∙ is ∙ sym (through_alike job place same));
      }

  pub job_finishes_alike : (job moment : ℕ) → JobFinishes system one task job moment → JobFinishes system other task job moment
  job_finishes_alike job moment finishes = finishes_alike job (length (timing_at system task).ranges - 1) moment finishes

  pub writes_at_deadline_alike : (job moment : ℕ) → WritesAtDeadline system one task job moment → WritesAtDeadline system other task job moment
  writes_at_deadline_alike job moment writes = record {
    finish = writes.finish;
    finishes = job_finishes_alike job writes.finish writes.finishes;
    in_time = writes.in_time;
    at_deadline = omega (arith, writes.at_deadline, arrival_alike (place_of_task system task _ writes.finishes.is_runnable) job);
    by_end = omega (arith, writes.by_end, alike.ticks);
  }

  read_alike : (access : AccessKind) (job place moment : ℕ) → task < length system.tasks
      → ReadsBy access system one task job place moment → ReadsBy access system other task job place moment
  read_alike Explicit job place moment is starts = starts_alike job place moment starts
  read_alike Implicit job place moment is starts = starts_alike job 0 moment starts
  read_alike Timed job place moment is arrives = arrives ∙ arrival_alike is job

  write_alike : (access : AccessKind) (job place moment : ℕ)
      → WritesBy access system one task job place moment → WritesBy access system other task job place moment
  write_alike Explicit job place moment finishes = finishes_alike job place moment finishes
  write_alike Implicit job place moment finishes = job_finishes_alike job moment finishes
  write_alike Timed job place moment writes = writes_at_deadline_alike job moment writes

  pub reads_alike : (job place tick : ℕ) → Reads system one task job place tick → Reads system other task job place tick
  reads_alike job place tick reads = record {
    in_table = job_alike job (jobs_of_place place reads.is_runnable) reads.in_table;
    is_runnable = reads.is_runnable;
    moment = read_alike (timing_at system task).access job place tick (place_of_task system task place reads.is_runnable) reads.moment;
  }

  pub writes_alike : (job place tick : ℕ) → Writes system one task job place tick → Writes system other task job place tick
  writes_alike job place tick writes = record {
    in_table = job_alike job (jobs_of_place place writes.is_runnable) writes.in_table;
    is_runnable = writes.is_runnable;
    moment = write_alike (timing_at system task).access job place tick writes.moment;
  }
