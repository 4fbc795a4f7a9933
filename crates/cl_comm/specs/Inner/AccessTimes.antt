-- When the runnables of jobs read and write: never before their windows, and within them where the job finishes in
-- time.
use Rattle.std.proofs.Common.{ℕ, ◌+◌, ◌-◌, ◌<◌, ◌≤◌, ◌≢◌, length, refl, arith}
use Rattle.cl_model.specs.declared.task.AccessKind.{AccessKind, TheVariants.{Explicit, Implicit, Timed}}
use Rattle.cl_runs.specs.{TaskTiming.{System, timing_at, IsSound}, Table.job_at, Run.{Run, jobs_of}, Legal.IsLegal, Work.work_through, Moments.{Starts, Finishes, JobFinishes, ReadsBy, WritesBy, Reads, Writes}}
use Rattle.cl_runs.proofs.{LegalFacts.{place_of_task, core_ticks, job_times, job_places, time_positive}, RunArrivals.{arrives_after_deadline, released_late}, JobProgress.{starts_late, finishes_late, finishes_apart}, StartsFinishes.{finishes_once, starts_before, finish_earliest}}
use Rattle.cl_runs.proofs.{StartsFinishes.finishes_by, Work.work_rises}
use Rattle.cl_comm.specs.{declared.spot.Spot.Spot, Windows.{spot_at, window_of, window_at}, Inner.LeastTimes.{deadline_is, least_before, least_own, least_after}}

-- where the least times and the response lie within each other, each window ends by the deadline
pub windows_end_by_the_deadline : (access : AccessKind) (spot : Spot) (response : ℕ)
    → spot.before + spot.own + spot.after ≤ response → response ≤ spot.deadline → (window_of access spot response).whi ≤ spot.deadline
windows_end_by_the_deadline Explicit spot response holds within = omega arith
windows_end_by_the_deadline Implicit spot response holds within = omega arith
windows_end_by_the_deadline Timed spot response holds within = omega arith

-- a job that has finished: the work of its runnables, and when they start and finish
module _ (system : System) (sound : IsSound system) (run : Run) (legal : IsLegal system run) (i : ℕ) (is : i < length system.tasks) where
  -- a runnable starts after the least times before it
  start_late : (k p t : ℕ) → Starts system run i k p t
      → (job_at (jobs_of run i) k).arrival + (spot_at (timing_at system i) p).before ≤ t
  start_late k p t starts = omega (
    arith,
    released_late system sound run legal i is k starts.in_table,
    starts_late system sound run legal i is k p t starts,
    least_before (timing_at system i) (jobs_of run i) k (job_times system sound run legal i is k starts.in_table) p,
  )

  -- it finishes after these and its own
  finish_late : (k p t : ℕ) → Finishes system run i k p t
      → (job_at (jobs_of run i) k).arrival + ((spot_at (timing_at system i) p).before + (spot_at (timing_at system i) p).own) ≤ t
  finish_late k p t finishes =
      let times = (job_times system sound run legal i is k finishes.in_table) in
      omega (
        arith,
        released_late system sound run legal i is k finishes.in_table,
        finishes_late system sound run legal i is k p t finishes,
        least_before (timing_at system i) (jobs_of run i) k times p,
        least_own (timing_at system i) (jobs_of run i) k times p finishes.is_runnable,
      )

  -- the least times after a runnable lie before the finish of its job
  work_after : (k p : ℕ) → k < length (jobs_of run i) → p < length (timing_at system i).ranges
      → work_through (jobs_of run i) k p + (spot_at (timing_at system i) p).after
      ≤ work_through (jobs_of run i) k (length (timing_at system i).ranges - 1)
  work_after k p job place = least_after (timing_at system i) (jobs_of run i) k
      (job_times system sound run legal i is k job) p place (job_places system sound run legal i is k job)

  -- a job finishes after the least times of all its runnables
  job_finish_late : (k p f : ℕ) → p < length (timing_at system i).ranges → JobFinishes system run i k f
      → (job_at (jobs_of run i) k).arrival
      + ((spot_at (timing_at system i) p).before + (spot_at (timing_at system i) p).own + (spot_at (timing_at system i) p).after) ≤ f
  job_finish_late k p f place finishes =
      let times = (job_times system sound run legal i is k finishes.in_table) in
      omega (
        arith,
        released_late system sound run legal i is k finishes.in_table,
        finishes_late system sound run legal i is k _ f finishes,
        least_before (timing_at system i) (jobs_of run i) k times p,
        least_own (timing_at system i) (jobs_of run i) k times p place,
        work_after k p finishes.in_table place,
      )

  -- a runnable finishes the least times after it before its job
  finish_before_job : (k p t f : ℕ) → Finishes system run i k p t → JobFinishes system run i k f
      → t + (spot_at (timing_at system i) p).after ≤ f
  finish_before_job k p t f one job =
      let after = work_after k p one.in_table one.is_runnable in
      omega (arith, after, finishes_apart system run i k p _ t f one job (omega (arith, after)))

  -- where a job finishes, each of its runnables has started and finished
  started : (k p f : ℕ) → p < length (timing_at system i).ranges → JobFinishes system run i k f
      → (t : ℕ) × (t < f) × Starts system run i k p t
  started k p f place finishes = starts_before system run i k p f finishes.in_table place (core_ticks system sound run legal i is) (omega (
    arith,
    finishes.reached,
    time_positive system sound run legal i is k p finishes.in_table place,
    work_after k p finishes.in_table place,
  ))

  finished : (k p f : ℕ) → p < length (timing_at system i).ranges → JobFinishes system run i k f
      → (t : ℕ) × (t ≤ f) × Finishes system run i k p t
  finished k p f place finishes = finishes_by system run i k p f finishes.in_table place finishes.by_end
      (omega (arith, finishes.reached, work_after k p finishes.in_table place))

  read_late : (a : AccessKind) (k p response t : ℕ) → k < length (jobs_of run i) → ReadsBy a system run i k p t
      → (job_at (jobs_of run i) k).arrival + (window_of a (spot_at (timing_at system i) p) response).rlo ≤ t
  read_late Explicit k p response t job starts = start_late k p t starts
  read_late Implicit k p response t job starts = omega (arith, start_late k 0 t starts)
  read_late Timed k p response t job arrives = omega (arith, arrives)

  write_late : (a : AccessKind) (k p response t : ℕ) → p < length (timing_at system i).ranges → WritesBy a system run i k p t
      → (job_at (jobs_of run i) k).arrival + (window_of a (spot_at (timing_at system i) p) response).wlo ≤ t
  write_late Explicit k p response t place finishes = finish_late k p t finishes
  write_late Implicit k p response t place finishes = job_finish_late k p t place finishes
  write_late Timed k p response t place writes = omega (arith, writes.at_deadline, deadline_is (timing_at system i) p)

  -- writes come in time where the job finishes in time
  write_in_time : (a : AccessKind) (k p response f t : ℕ) → JobFinishes system run i k f
      → f ≤ (job_at (jobs_of run i) k).arrival + response → WritesBy a system run i k p t
      → t ≤ (job_at (jobs_of run i) k).arrival + (window_of a (spot_at (timing_at system i) p) response).whi
  write_in_time Explicit k p response f t job h finishes = omega (arith, finish_late k p t finishes, finish_before_job k p t f finishes job)
  write_in_time Implicit k p response f t job h finishes = omega (arith, finishes_once system run i k _ t f finishes job)
  write_in_time Timed k p response f t job h writes = omega (arith, writes.at_deadline, deadline_is (timing_at system i) p)

  -- a job that has finished has read, and has written where its windows have ended
  read_of_finished : (a : AccessKind) (k p f : ℕ) → p < length (timing_at system i).ranges → JobFinishes system run i k f
      → (t : ℕ) × (t < f) × ReadsBy a system run i k p t
  read_of_finished Explicit k p f place job = started k p f place job
  read_of_finished Implicit k p f place job = started k 0 f (omega (arith, place)) job
  read_of_finished Timed k p f place job = (
    (job_at (jobs_of run i) k).arrival,
    omega (arith, start_late k p (started k p f place job).0 (started k p f place job).2, (started k p f place job).1),
    refl,
  )

  write_of_finished : (a : AccessKind) (k p response f : ℕ) → p < length (timing_at system i).ranges → JobFinishes system run i k f
      → f ≤ (job_at (jobs_of run i) k).arrival + response → response ≤ (timing_at system i).deadline
      → (job_at (jobs_of run i) k).arrival + (window_of a (spot_at (timing_at system i) p) response).whi ≤ run.table.ticks
      → (t : ℕ) × WritesBy a system run i k p t
  write_of_finished Explicit k p response f place job h within end = let (t, by, finishes) = finished k p f place job in (t, finishes)
  write_of_finished Implicit k p response f place job h within end = (f, job)
  write_of_finished Timed k p response f place job h within end = (
    (job_at (jobs_of run i) k).arrival + (timing_at system i).deadline,
    record {
      finish = f;
      finishes = job;
      in_time = omega (arith, h, within);
      at_deadline = refl;
      by_end = omega (arith, end, deadline_is (timing_at system i) p);
    },
  )

  -- where the task isn't timed, it runs as it reads, and has written by the finish of the job
  read_runs : (a : AccessKind) (k p t : ℕ) → a ≢ Timed → ReadsBy a system run i k p t → (q : ℕ) × Starts system run i k q t
  read_runs Explicit k p t runs starts = (p, starts)
  read_runs Implicit k p t runs starts = (0, starts)
  read_runs Timed k p t runs arrives = absurd (runs refl)

  write_by_finish : (a : AccessKind) (k p f : ℕ) → a ≢ Timed → p < length (timing_at system i).ranges → JobFinishes system run i k f
      → (t : ℕ) × (t ≤ f) × WritesBy a system run i k p t
  write_by_finish Explicit k p f runs place job = finished k p f place job
  write_by_finish Implicit k p f runs place job = (f, omega arith, job)
  write_by_finish Timed k p f runs place job = absurd (runs refl)

  -- a runnable finishes before each start of a later job
  finish_before_start : (k p l q s t : ℕ) → k < l → Finishes system run i k p s → Starts system run i l q t → s ≤ t
  finish_before_start k p l q s t h finishes starts = finish_earliest system run i k p s t finishes (omega (
    arith,
    starts.reached,
    work_rises (jobs_of run i) k p l q finishes.in_table
        (omega (arith, finishes.is_runnable, job_places system sound run legal i is k finishes.in_table)) h,
  ))

  write_before_read : (a : AccessKind) (k q l p w r : ℕ) → k < l → l < length (jobs_of run i)
      → WritesBy a system run i k q w → ReadsBy a system run i l p r → w ≤ r
  write_before_read Explicit k q l p w r h job finishes starts = finish_before_start k q l p w r h finishes starts
  write_before_read Implicit k q l p w r h job finishes starts = finish_before_start k _ l 0 w r h finishes starts
  write_before_read Timed k q l p w r h job writes arrives =
      omega (arith, writes.at_deadline, arrives, arrives_after_deadline system sound run legal i is k l h job)

module _ (system : System) (sound : IsSound system) (run : Run) (legal : IsLegal system run) (i : ℕ) where
  -- a read comes no earlier than its window
  pub reads_come_late : (k p response t : ℕ) → Reads system run i k p t
      → (job_at (jobs_of run i) k).arrival + (window_at (timing_at system i) p response).rlo ≤ t
  reads_come_late k p response t reads = read_late system sound run legal i (place_of_task system i p reads.is_runnable)
      (timing_at system i).access k p response t reads.in_table reads.moment

  -- nor does a write
  pub writes_come_late : (k p response t : ℕ) → Writes system run i k p t
      → (job_at (jobs_of run i) k).arrival + (window_at (timing_at system i) p response).wlo ≤ t
  writes_come_late k p response t writes = write_late system sound run legal i (place_of_task system i p writes.is_runnable)
      (timing_at system i).access k p response t writes.is_runnable writes.moment

  -- where a job finishes within the response, it writes no later than its window
  pub writes_come_in_time : (k p response f t : ℕ) → JobFinishes system run i k f
      → f ≤ (job_at (jobs_of run i) k).arrival + response → Writes system run i k p t
      → t ≤ (job_at (jobs_of run i) k).arrival + (window_at (timing_at system i) p response).whi
  writes_come_in_time k p response f t job h writes = write_in_time system sound run legal i (place_of_task system i p writes.is_runnable)
      (timing_at system i).access k p response f t job h writes.moment

  -- a job that has finished has read before that
  pub finished_jobs_read : (k p f : ℕ) → JobFinishes system run i k f → p < length (timing_at system i).ranges
      → (t : ℕ) × (t < f) × Reads system run i k p t
  finished_jobs_read k p f job place =
      let (t, before, moment) = read_of_finished system sound run legal i (place_of_task system i p place)
      (timing_at system i).access k p f place job in
      (t, before, record { in_table = job.in_table; is_runnable = place; moment = moment })

  -- a job that has finished within the response writes, where its window ends within the run
  pub finished_jobs_write : (k p response f : ℕ) → JobFinishes system run i k f
      → f ≤ (job_at (jobs_of run i) k).arrival + response → response ≤ (timing_at system i).deadline
      → p < length (timing_at system i).ranges
      → (job_at (jobs_of run i) k).arrival + (window_at (timing_at system i) p response).whi ≤ run.table.ticks
      → (t : ℕ) × Writes system run i k p t
  finished_jobs_write k p response f job h within place end =
      let (t, moment) = write_of_finished system sound run legal i (place_of_task system i p place)
      (timing_at system i).access k p response f place job h within end in
      (t, record { in_table = job.in_table; is_runnable = place; moment = moment })

  -- a response within which a job finishes holds the least times of its runnables
  pub responses_hold_the_least_times : (k p response f : ℕ) → JobFinishes system run i k f
      → f ≤ (job_at (jobs_of run i) k).arrival + response → p < length (timing_at system i).ranges
      → (spot_at (timing_at system i) p).before + (spot_at (timing_at system i) p).own + (spot_at (timing_at system i) p).after ≤ response
  responses_hold_the_least_times k p response f job h place =
      omega (arith, h, job_finish_late system sound run legal i (place_of_task system i p place) k p f place job)

  -- where the task isn't timed, it runs in the tick in which it reads
  pub readers_run : (timing_at system i).access ≢ Timed → (k p t : ℕ) → Reads system run i k p t → (q : ℕ) × Starts system run i k q t
  readers_run runs k p t reads = read_runs system sound run legal i (place_of_task system i p reads.is_runnable)
      (timing_at system i).access k p t runs reads.moment

  -- and a job that has finished has written by then
  pub readers_write_by_their_finish : (timing_at system i).access ≢ Timed → (k p f : ℕ) → JobFinishes system run i k f
      → p < length (timing_at system i).ranges → (t : ℕ) × (t ≤ f) × Writes system run i k p t
  readers_write_by_their_finish runs k p f job place =
      let (t, by, moment) = write_by_finish system sound run legal i (place_of_task system i p place)
      (timing_at system i).access k p f runs place job in
      (t, by, record { in_table = job.in_table; is_runnable = place; moment = moment })

  -- a job writes before each later job of its task reads, or at the same time
  pub writes_come_before_the_next_read : (k q l p w r : ℕ) → k < l → Writes system run i k q w → Reads system run i l p r → w ≤ r
  writes_come_before_the_next_read k q l p w r h writes reads = write_before_read system sound run legal i
      (place_of_task system i p reads.is_runnable) (timing_at system i).access k q l p w r h reads.in_table writes.moment reads.moment
