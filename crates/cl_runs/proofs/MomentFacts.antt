-- Read and write moments: each is unique, they rise with the job number, and a job that has written has read.
use Rattle.std.proofs.Common.{◌≡◌, ℕ, ◌+◌, ◌<◌, ◌≤◌, length, refl, sym, subst, ◌∙◌, arith}
use Rattle.cl_model.specs.declared.task.AccessKind.{AccessKind, TheVariants.{Explicit, Implicit, Timed}}
use Rattle.cl_runs.specs.{TaskTiming.{System, timing_at, IsSound}, Table.job_at, Run.{Run, jobs_of, executed}, Legal.IsLegal, Work.{work_before, work_through}, Moments.{Starts, Finishes, HasStartedBefore, JobFinishes, WritesAtDeadline, ReadsBy, WritesBy, Reads, HasReadBefore, Writes}}
use Rattle.cl_runs.proofs.{Climbing.climb_lt, Executed.executed_climbs, Work.{work_rises, places_rise}, LegalFacts.{place_of_task, core_ticks, job_places, time_positive}, RunArrivals.{arrives_below, arrivals_rise}, StartsFinishes.{starts_once, finishes_once, starts_before}}

module _ (system : System) (run : Run) (i : ℕ) where
  read_once : (a : AccessKind) (k p s t : ℕ) → ReadsBy a system run i k p s → ReadsBy a system run i k p t → s ≡ t
  read_once Explicit k p s t one other = starts_once system run i k p s t one other
  read_once Implicit k p s t one other = starts_once system run i k 0 s t one other
  read_once Timed k p s t one other = one ∙ sym other

  write_once : (a : AccessKind) (k p s t : ℕ) → WritesBy a system run i k p s → WritesBy a system run i k p t → s ≡ t
  write_once Explicit k p s t one other = finishes_once system run i k p s t one other
  write_once Implicit k p s t one other = finishes_once system run i k _ s t one other
  write_once Timed k p s t one other = one.at_deadline ∙ sym other.at_deadline

  -- a job reads once, and writes at most once
  pub reads_once : (k p s t : ℕ) → Reads system run i k p s → Reads system run i k p t → s ≡ t
  reads_once k p s t one other = read_once (timing_at system i).access k p s t one.moment other.moment

  pub writes_once : (k p s t : ℕ) → Writes system run i k p s → Writes system run i k p t → s ≡ t
  writes_once k p s t one other = write_once (timing_at system i).access k p s t one.moment other.moment

module _ (system : System) (sound : IsSound system) (run : Run) (legal : IsLegal system run) (i : ℕ) (is : i < length system.tasks) where
  -- all work of a job is positive and stands behind the earlier jobs
  before_through : (k p q : ℕ) → k < length (jobs_of run i) → q < length (timing_at system i).ranges → p ≤ q
      → work_before (jobs_of run i) k p < work_through (jobs_of run i) k q
  before_through k p q job place h = omega (arith, places_rise (jobs_of run i) k p q h, time_positive system sound run legal i is k q job place)

  jobs_apart : (k p l q : ℕ) → k < l → k < length (jobs_of run i) → p < length (timing_at system i).ranges
      → work_through (jobs_of run i) k p ≤ work_before (jobs_of run i) l q
  jobs_apart k p l q h job place =
      work_rises (jobs_of run i) k p l q job (omega (arith, place, job_places system sound run legal i is k job)) h

  -- starts and finishes rise with the job number
  starts_rise : (k p l q s t : ℕ) → k < l → Starts system run i k p s → Starts system run i l q t → s < t
  starts_rise k p l q s t h one other = climb_lt (executed system run i) (executed_climbs system run i) s t
      (omega (
        arith,
        one.reached,
        other.reached,
        jobs_apart k p l q h one.in_table one.is_runnable,
        before_through k p p one.in_table one.is_runnable (omega arith),
      ))

  finishes_rise : (k p l q s t : ℕ) → k < l → Finishes system run i k p s → Finishes system run i l q t → s < t
  finishes_rise k p l q s t h one other = climb_lt (executed system run i) (executed_climbs system run i) s t
      (omega (
        arith,
        one.reached,
        other.reached,
        jobs_apart k p l q h one.in_table one.is_runnable,
        before_through l q q other.in_table other.is_runnable (omega arith),
      ))

  -- where a runnable has finished, each one before it has started
  start_of_finish : (k p q t : ℕ) → p ≤ q → Finishes system run i k q t → (r : ℕ) × (r < t) × Starts system run i k p r
  start_of_finish k p q t h finishes = starts_before system run i k p t finishes.in_table (omega (arith, h, finishes.is_runnable))
      (core_ticks system sound run legal i is)
      (omega (arith, finishes.reached, before_through k p q finishes.in_table finishes.is_runnable h))

  -- and each one of an earlier job
  start_of_earlier : (k p l q t : ℕ) → k < l → p < length (timing_at system i).ranges → Finishes system run i l q t
      → (r : ℕ) × (r < t) × Starts system run i k p r
  start_of_earlier k p l q t h place finishes =
      let job : k < length (jobs_of run i) = omega (arith, h, finishes.in_table) in
      starts_before system run i k p t job place (core_ticks system sound run legal i is)
      (omega (arith, finishes.reached, jobs_apart k p l q h job place, before_through k p p job place (omega arith)))

  -- and where a runnable has started, each one of an earlier job has started before
  start_of_start : (k p l q t : ℕ) → k < l → p < length (timing_at system i).ranges → Starts system run i l q t
      → (r : ℕ) × (r < t) × Starts system run i k p r
  start_of_start k p l q t h place starts =
      let job : k < length (jobs_of run i) = omega (arith, h, starts.in_table) in
      starts_before system run i k p t job place (core_ticks system sound run legal i is)
      (omega (arith, starts.reached, jobs_apart k p l q h job place, before_through k p p job place (omega arith)))

  read_rises : (a : AccessKind) (k p l q s t : ℕ) → k < l → l < length (jobs_of run i) → ReadsBy a system run i k p s → ReadsBy a system run i l q t → s < t
  read_rises Explicit k p l q s t h below one other = starts_rise k p l q s t h one other
  read_rises Implicit k p l q s t h below one other = starts_rise k 0 l 0 s t h one other
  read_rises Timed k p l q s t h below one other = omega (arith, one, other, arrivals_rise system sound run legal i is k l h below)

  write_rises : (a : AccessKind) (k p l q s t : ℕ) → k < l → l < length (jobs_of run i) → WritesBy a system run i k p s → WritesBy a system run i l q t → s < t
  write_rises Explicit k p l q s t h below one other = finishes_rise k p l q s t h one other
  write_rises Implicit k p l q s t h below one other = finishes_rise k _ l _ s t h one other
  write_rises Timed k p l q s t h below one other =
      omega (arith, one.at_deadline, other.at_deadline, arrivals_rise system sound run legal i is k l h below)

  read_below : (a : AccessKind) (k p t : ℕ) → k < length (jobs_of run i) → ReadsBy a system run i k p t → t < run.table.ticks
  read_below Explicit k p t job starts = starts.below_end
  read_below Implicit k p t job starts = starts.below_end
  read_below Timed k p t job arrives = omega (arith, arrives, arrives_below system sound run legal i is k job)

  write_within : (a : AccessKind) (k p t : ℕ) → WritesBy a system run i k p t → t ≤ run.table.ticks
  write_within Explicit k p t finishes = finishes.by_end
  write_within Implicit k p t finishes = finishes.by_end
  write_within Timed k p t writes = writes.by_end

  -- a job that has written at a place has read at this and each earlier place
  read_of_write : (a : AccessKind) (k p q t : ℕ) → p ≤ q → q < length (timing_at system i).ranges → WritesBy a system run i k q t
      → (r : ℕ) × (r < t) × ReadsBy a system run i k p r
  read_of_write Explicit k p q t h place finishes = start_of_finish k p q t h finishes
  read_of_write Implicit k p q t h place finishes = start_of_finish k 0 _ t (omega arith) finishes
  read_of_write Timed k p q t h place writes =
      ((job_at (jobs_of run i) k).arrival, omega (arith, writes.at_deadline, (sound.tasks i is).above_jitter), refl)

  -- and the jobs before it have read
  read_of_earlier : (a : AccessKind) (k p l q t : ℕ) → k < l → l < length (jobs_of run i) → p < length (timing_at system i).ranges
      → WritesBy a system run i l q t → (r : ℕ) × (r < t) × ReadsBy a system run i k p r
  read_of_earlier Explicit k p l q t h below place finishes = start_of_earlier k p l q t h place finishes
  read_of_earlier Implicit k p l q t h below place finishes = start_of_earlier k 0 l _ t h (omega arith) finishes
  read_of_earlier Timed k p l q t h below place writes = (
    (job_at (jobs_of run i) k).arrival,
    omega (arith, writes.at_deadline, arrivals_rise system sound run legal i is k l h below),
    refl,
  )

  -- so have the jobs before one that has read
  read_of_read : (a : AccessKind) (k p l q t : ℕ) → k < l → l < length (jobs_of run i) → p < length (timing_at system i).ranges
      → ReadsBy a system run i l q t → (r : ℕ) × (r < t) × ReadsBy a system run i k p r
  read_of_read Explicit k p l q t h below place starts = start_of_start k p l q t h place starts
  read_of_read Implicit k p l q t h below place starts = start_of_start k 0 l 0 t h (omega arith) starts
  read_of_read Timed k p l q t h below place arrives = (
    (job_at (jobs_of run i) k).arrival,
    omega (arith, arrives, arrivals_rise system sound run legal i is k l h below),
    refl,
  )

module _ (system : System) (sound : IsSound system) (run : Run) (legal : IsLegal system run) (i : ℕ) where
  -- a runnable has started where more is executed than the work before it
  pub has_started : (k p t : ℕ) → k < length (jobs_of run i) → p < length (timing_at system i).ranges
      → work_before (jobs_of run i) k p < executed system run i t → HasStartedBefore system run i k p t
  has_started k p t job place more =
      let (start, before, starts) = starts_before system run i k p t job place
      (core_ticks system sound run legal i (place_of_task system i p place)) more in
      record { start = start; before = before; starts = starts }

  -- hence where the work up to it is
  pub has_started_through : (k p t : ℕ) → k < length (jobs_of run i) → p < length (timing_at system i).ranges
      → work_through (jobs_of run i) k p ≤ executed system run i t → HasStartedBefore system run i k p t
  has_started_through k p t job place reached = has_started k p t job place
      (omega (arith, reached, time_positive system sound run legal i (place_of_task system i p place) k p job place))

  -- and where a later job has started
  pub earlier_started : (k p l q t : ℕ) → k < l → p < length (timing_at system i).ranges → Starts system run i l q t
      → HasStartedBefore system run i k p t
  earlier_started k p l q t h place starts =
      let (start, before, earlier) = start_of_start system sound run legal i (place_of_task system i p place) k p l q t h place starts in
      record { start = start; before = before; starts = earlier }

  -- where a job has read, the jobs before it have read at each runnable
  pub earlier_has_read : (k p l q t : ℕ) → k < l → p < length (timing_at system i).ranges → Reads system run i l q t
      → HasReadBefore system run i k p t
  earlier_has_read k p l q t h place reads =
      let (read, before, moment) = read_of_read system sound run legal i (place_of_task system i p place)
      (timing_at system i).access k p l q t h reads.in_table place reads.moment in
      record {
        read = read;
        before = before;
        reads = record { in_table = omega (arith, h, reads.in_table); is_runnable = place; moment = moment };
      }

  pub reads_rise : (k p l q s t : ℕ) → k < l → Reads system run i k p s → Reads system run i l q t → s < t
  reads_rise k p l q s t h one other = read_rises system sound run legal i (place_of_task system i p one.is_runnable)
      (timing_at system i).access k p l q s t h other.in_table one.moment other.moment

  pub writes_rise : (k p l q s t : ℕ) → k < l → Writes system run i k p s → Writes system run i l q t → s < t
  writes_rise k p l q s t h one other = write_rises system sound run legal i (place_of_task system i p one.is_runnable)
      (timing_at system i).access k p l q s t h other.in_table one.moment other.moment

  pub reads_below : (k p t : ℕ) → Reads system run i k p t → t < run.table.ticks
  reads_below k p t reads = read_below system sound run legal i (place_of_task system i p reads.is_runnable)
      (timing_at system i).access k p t reads.in_table reads.moment

  pub writes_within : (k p t : ℕ) → Writes system run i k p t → t ≤ run.table.ticks
  writes_within k p t writes = write_within system sound run legal i (place_of_task system i p writes.is_runnable)
      (timing_at system i).access k p t writes.moment

  pub has_read : (k p q t : ℕ) → p ≤ q → Writes system run i k q t → (r : ℕ) × (r < t) × Reads system run i k p r
  has_read k p q t h writes =
      let (r, before, moment) = read_of_write system sound run legal i (place_of_task system i q writes.is_runnable)
      (timing_at system i).access k p q t h writes.is_runnable writes.moment in
      (r, before, record { in_table = writes.in_table; is_runnable = omega (arith, h, writes.is_runnable); moment = moment })

  pub earlier_read : (k p l q t : ℕ) → k < l → p < length (timing_at system i).ranges → Writes system run i l q t
      → (r : ℕ) × (r < t) × Reads system run i k p r
  earlier_read k p l q t h place writes =
      let (r, before, moment) = read_of_earlier system sound run legal i (place_of_task system i q writes.is_runnable)
      (timing_at system i).access k p l q t h writes.in_table place writes.moment in
      (r, before, record { in_table = omega (arith, h, writes.in_table); is_runnable = place; moment = moment })

-- a timed job that finishes after its deadline writes nothing
pub late_writes_nothing : (system : System) (run : Run) (i k p f t : ℕ) → (timing_at system i).access ≡ Timed → JobFinishes system run i k f
    → (job_at (jobs_of run i) k).arrival + (timing_at system i).deadline < f → Writes system run i k p t → ⊥
late_writes_nothing system run i k p f t is finishes late writes =
    let moment : WritesAtDeadline system run i k t = subst (λ (a : AccessKind). WritesBy a system run i k p t) is writes.moment in
    omega (arith, late, moment.in_time, moment.at_deadline, finishes_once system run i k _ _ _ moment.finishes finishes)
