-- What holds of a task in a legal run: executed ticks never exceed released work, and each job is lawful.
use Rattle.std.proofs.Common.{◌≡◌, ℕ, zero, suc, ◌<◌, ◌≤◌, ◌⊎◌, inl, inr, Some, length, ap, subst, arith}
use Rattle.std.specs.Prelude.{slice_index}
use Rattle.std.proofs.lemmas.Bool.{cases_lt}
use Rattle.std.proofs.lemmas.List.{get_or_past}
use Rattle.cl_runs.specs.{TaskTiming.{Timing, System, timing_at, no_timing, IsSound}, Table.{no_job, job_at, HasTimes}, Run.{Run, jobs_of, core_entries, entry_at, executed}, Legal.{released, IsTaskHeld, IsScheduled, IsLegal}}
use Rattle.cl_runs.proofs.{Executed.{executed_zero, executed_climbs, executed_grew, executed_past}, Work.{total_time, released_mono, released_total}, LawfulJobs.{times_length, times_positive}, HeldTasks.held_released, RunArrivals.releases_in_order}

-- a place that is one of a task's runnables is one of a task of the system
pub place_of_task : (system : System) (i p : ℕ) → p < length (timing_at system i).ranges → i < length system.tasks
unfolding no_timing
place_of_task system i p h = elim (cases_lt i (length system.tasks)) [
  | inl is ↦ is
  | inr past ↦ absurd (omega (arith, h, ap (λ (task : Timing). length task.ranges) (get_or_past system.tasks i no_timing past)))
]

module _ (system : System) (sound : IsSound system) (run : Run) (legal : IsLegal system run) (i : ℕ) (is : i < length system.tasks) where
  -- the core of the task has an entry per tick
  pub core_ticks : length (core_entries run (timing_at system i).core) ≡ run.table.ticks
  core_ticks = legal.in_form.ticks (timing_at system i).core (sound.tasks i is).on_core

  -- a job has one time per runnable, each in its range and at least one tick
  pub job_times : (k : ℕ) → k < length (jobs_of run i) → HasTimes (timing_at system i) (job_at (jobs_of run i) k)
  job_times k h = (legal.lawful.jobs i is).times k no_job h

  pub job_places : (k : ℕ) → k < length (jobs_of run i) → length (job_at (jobs_of run i) k).times ≡ length (timing_at system i).ranges
  job_places k h = times_length (timing_at system i) (job_at (jobs_of run i) k) (job_times k h)

  pub time_positive : (k p : ℕ) → k < length (jobs_of run i) → p < length (timing_at system i).ranges
      → 1 ≤ slice_index (job_at (jobs_of run i) k).times p
  time_positive k p h place = times_positive system.cores (timing_at system i) (sound.tasks i is) (job_at (jobs_of run i) k) (job_times k h) p place

  -- where the task runs, it is the first held task of its core, or none is held and it is the highest pending one
  pub running_scheduled : (t : ℕ) → t < run.table.ticks → entry_at run (timing_at system i).core t ≡ Some i
      → IsScheduled system run.table (λ j. executed system run j t) t (timing_at system i).core (Some i)
  running_scheduled t h runs =
      subst (λ e. IsScheduled system run.table (λ j. executed system run j t) t (timing_at system i).core e) runs
      (legal.scheduled (timing_at system i).core t (sound.tasks i is).on_core h)

  -- a held task has work left, where it hasn't executed more than is released
  held_pending : (t : ℕ) → executed system run i t ≤ released (jobs_of run i) t
      → IsTaskHeld system run.table (λ j. executed system run j t) i → executed system run i t < released (jobs_of run i) t
  held_pending t within held = held_released (timing_at system i) (jobs_of run i) job_places t (executed system run i t)
      (releases_in_order system sound run legal i is) within held

  scheduled_pending : (t : ℕ) → executed system run i t ≤ released (jobs_of run i) t
      → IsScheduled system run.table (λ j. executed system run j t) t (timing_at system i).core (Some i)
      → executed system run i t < released (jobs_of run i) t
  scheduled_pending t within (inl held) = held_pending t within held.held
  scheduled_pending t within (inr runs) = runs.1.pending

  next_within : (t : ℕ) → t < run.table.ticks → executed system run i t ≤ released (jobs_of run i) t
      → (executed system run i (suc t) ≡ executed system run i t) ⊎ (executed system run i (suc t) ≡ suc (executed system run i t))
      → executed system run i (suc t) ≤ released (jobs_of run i) (suc t)
  next_within t h within (inl same) = omega (arith, released_mono (jobs_of run i) t (suc t) (omega arith))
  next_within t h within (inr more) = omega (
    arith,
    released_mono (jobs_of run i) t (suc t) (omega arith),
    scheduled_pending t within (running_scheduled t h (executed_grew system run i t more).1),
  )

  -- executed ticks never exceed released work
  pub executed_released : (t : ℕ) → t ≤ run.table.ticks → executed system run i t ≤ released (jobs_of run i) t
  executed_released zero h = omega (arith, executed_zero system run i)
  executed_released (suc t) h = next_within t h (executed_released t (omega arith)) (executed_climbs system run i t)

  -- where the task runs, it has work left
  pub running_pending : (t : ℕ) → t < run.table.ticks → entry_at run (timing_at system i).core t ≡ Some i
      → executed system run i t < released (jobs_of run i) t
  running_pending t h runs = scheduled_pending t (executed_released t (omega arith)) (running_scheduled t h runs)

  -- and where it is held
  pub held_has_work : (t : ℕ) → t ≤ run.table.ticks → IsTaskHeld system run.table (λ j. executed system run j t) i
      → executed system run i t < released (jobs_of run i) t
  held_has_work t h held = held_pending t (executed_released t h) held

  -- nor the time of all jobs
  pub executed_total : (t : ℕ) → executed system run i t ≤ total_time (jobs_of run i)
  executed_total t = elim (cases_lt t run.table.ticks) [
    | inl below ↦ omega (arith, executed_released t (omega arith), released_total (jobs_of run i) t)
    | inr past ↦ omega (
      arith,
      executed_released run.table.ticks (omega arith),
      released_total (jobs_of run i) run.table.ticks,
      executed_past system run i t run.table.ticks (omega (arith, core_ticks)) (omega (arith, core_ticks)),
    )
  ]
