-- In a run in order the reads and the writes of a task rise with the job, and a job that has written has read before.
use Rattle.std.proofs.Common.{◌≡◌, ℕ, ◌<◌, ◌≤◌, List, length, refl, arith}
use Rattle.cl_model.specs.{declared.{group.{Group.Group, Step.Step}, task.AccessKind.{AccessKind, TheVariants.{Explicit, Implicit, Timed}}}, Groups.{groups, group_at}}
use Rattle.cl_runs.specs.{TaskTiming.{System, timing_at, IsSound}, Table.job_at, Run.{Run, jobs_of, core_entries, executed, IsInForm}, Work.{work_before, work_through}, Moments.{Starts, Finishes, ReadsBy, WritesBy}, MomentOrder.{AreInOrder, HaveReadBeforeWriting}, RunChains.run_moments}
use Rattle.cl_runs.proofs.{Climbing.climb_lt, Executed.executed_climbs, Work.{work_rises, places_rise}, LegalFacts.place_of_task, StartsFinishes.starts_before, GroupPlaces.groups_forward, OrderedMoments.run_unique}
use Rattle.cl_check.specs.InOrder.{AreJobsInOrder, AreGroupsInOrder}
use Rattle.cl_check.proofs.JobsInOrder.{job_time}

-- ---- a task

module _ (system : System) (sound : IsSound system) (run : Run) (in_form : IsInForm system run) (i : ℕ) (is : i < length system.tasks)
    (ordered : AreJobsInOrder (jobs_of run i)) where
  core_ticks : length (core_entries run (timing_at system i).core) ≡ run.table.ticks
  core_ticks = in_form.ticks (timing_at system i).core (sound.tasks i is).on_core

  -- all work of a job is positive and stands behind the earlier jobs
  before_through : (k p q : ℕ) → k < length (jobs_of run i) → q < length (timing_at system i).ranges → p ≤ q
      → work_before (jobs_of run i) k p < work_through (jobs_of run i) k q
  before_through k p q job place h = omega (arith, places_rise (jobs_of run i) k p q h, job_time system run in_form i is ordered.times k q job place)

  jobs_apart : (k p l q : ℕ) → k < l → k < length (jobs_of run i) → p < length (timing_at system i).ranges
      → work_through (jobs_of run i) k p ≤ work_before (jobs_of run i) l q
  jobs_apart k p l q h job place = work_rises (jobs_of run i) k p l q job (omega (arith, place, in_form.times i k is job)) h

  -- starts and finishes rise with the job
  starts_rise : (k p l q s t : ℕ) → k < l → Starts system run i k p s → Starts system run i l q t → s < t
  starts_rise k p l q s t h one other = climb_lt (executed system run i) (executed_climbs system run i) s t
      (omega (
        arith,
        one.reached,
        other.reached,
        jobs_apart k p l q h one.in_table one.is_runnable,
        before_through k p p one.in_table one.is_runnable (omega arith),
      ))

  finishes_rise : (k p l q s t : ℕ) → k < l → Finishes system run i k p s → Finishes system run i l q t → s < t
  finishes_rise k p l q s t h one other = climb_lt (executed system run i) (executed_climbs system run i) s t
      (omega (
        arith,
        one.reached,
        other.reached,
        jobs_apart k p l q h one.in_table one.is_runnable,
        before_through l q q other.in_table other.is_runnable (omega arith),
      ))

  -- where a runnable has finished, each one before it has started
  start_of_finish : (k p q t : ℕ) → p ≤ q → Finishes system run i k q t → (r : ℕ) × (r < t) × Starts system run i k p r
  start_of_finish k p q t h finishes = starts_before system run i k p t finishes.in_table (omega (arith, h, finishes.is_runnable)) core_ticks
      (omega (arith, finishes.reached, before_through k p q finishes.in_table finishes.is_runnable h))

  read_rises : (a : AccessKind) (k p l q s t : ℕ) → k < l → l < length (jobs_of run i) → ReadsBy a system run i k p s → ReadsBy a system run i l q t → s < t
  read_rises Explicit k p l q s t h below one other = starts_rise k p l q s t h one other
  read_rises Implicit k p l q s t h below one other = starts_rise k 0 l 0 s t h one other
  read_rises Timed k p l q s t h below one other = omega (arith, one, other, ordered.arrivals k l h below)

  write_rises : (a : AccessKind) (k p l q s t : ℕ) → k < l → l < length (jobs_of run i) → WritesBy a system run i k p s → WritesBy a system run i l q t → s < t
  write_rises Explicit k p l q s t h below one other = finishes_rise k p l q s t h one other
  write_rises Implicit k p l q s t h below one other = finishes_rise k _ l _ s t h one other
  write_rises Timed k p l q s t h below one other = omega (arith, one.at_deadline, other.at_deadline, ordered.arrivals k l h below)

  -- a job that has written at a place has read at this and each earlier place
  read_of_write : (a : AccessKind) (k p q t : ℕ) → p ≤ q → WritesBy a system run i k q t → (r : ℕ) × (r < t) × ReadsBy a system run i k p r
  read_of_write Explicit k p q t h finishes = start_of_finish k p q t h finishes
  read_of_write Implicit k p q t h finishes = start_of_finish k 0 _ t (omega arith) finishes
  read_of_write Timed k p q t h writes =
      ((job_at (jobs_of run i) k).arrival, omega (arith, writes.at_deadline, (sound.tasks i is).above_jitter), refl)

-- ---- groups

module _ (system : System) (sound : IsSound system) (run : Run) (in_form : IsInForm system run) where
  module _ (all : List Group) (ordered : AreGroupsInOrder all run) where
    -- the moments of each job are unique, and rise with the job
    pub moments_in_order : AreInOrder (run_moments system run) all
    unfolding run_moments
    moments_in_order = record {
      unique = run_unique system run all;
      reads_rise = λ i k l s t h less one other.
          let is = place_of_task system (group_at all i).task (group_at all i).first one.is_runnable in
          read_rises system sound run in_form (group_at all i).task is (ordered i h) (timing_at system (group_at all i).task).access
          k (group_at all i).first l (group_at all i).first s t less other.in_table one.moment other.moment;
      writes_rise = λ i k l s t h less one other.
          let is = place_of_task system (group_at all i).task (group_at all i).last one.is_runnable in
          write_rises system sound run in_form (group_at all i).task is (ordered i h) (timing_at system (group_at all i).task).access
          k (group_at all i).last l (group_at all i).last s t less other.in_table one.moment other.moment;
    }

  -- a job that has written has read before
  pub have_read : (steps : List Step) → AreGroupsInOrder (groups steps) run → HaveReadBeforeWriting (run_moments system run) (groups steps)
  unfolding run_moments
  have_read steps ordered i job write h writes =
      let group = group_at (groups steps) i in
      let is = place_of_task system group.task group.last writes.is_runnable in
      let (read, before, moment) = read_of_write system sound run in_form group.task is (ordered i h) (timing_at system group.task).access
      job group.first group.last write (groups_forward steps i h) writes.moment in
      (read, before, record { in_table = writes.in_table; is_runnable = omega (arith, groups_forward steps i h, writes.is_runnable); moment = moment })
