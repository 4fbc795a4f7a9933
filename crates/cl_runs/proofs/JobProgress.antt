-- In a legal run a job begins at its release or later, and executes at most one tick of its work in each tick.
use Rattle.std.proofs.Common.{◌≡◌, ℕ, zero, suc, ◌+◌, ◌<◌, ◌≤◌, ◌⊎◌, inl, inr, List, length, take, arith}
use Rattle.std.specs.Prelude.{sum, sum_by}
use Rattle.std.proofs.lemmas.Bool.{cases_lt}
use Rattle.cl_runs.specs.{TaskTiming.{System, IsSound}, declared.job.Job.Job, Table.job_at, Run.{Run, jobs_of, executed}, Legal.{released, IsLegal}, Work.{work_before, work_through}, Moments.{Starts, Finishes}}
use Rattle.cl_runs.proofs.{Climbing.climb_slow, Executed.{executed_zero, executed_climbs, executed_grew, executed_past}, LegalFacts.{core_ticks, running_pending, executed_released, time_positive}, RunArrivals.releases_in_order, StartsFinishes.{start_grows, finish_earliest}}
use Rattle.cl_runs.proofs.Work.{places_rise, released_before}

earlier_work : (jobs : List Job) (k : ℕ) → sum_by (λ (job : Job). sum job.times) (take k jobs) ≡ work_before jobs k 0
unfolding work_before
earlier_work jobs k = omega arith

module _ (system : System) (sound : IsSound system) (run : Run) (legal : IsLegal system run) (i : ℕ) (is : i < length system.tasks) where
  -- a tick executes only what is released at its beginning
  executed_next : (t : ℕ) → t < run.table.ticks
      → (executed system run i (suc t) ≡ executed system run i t) ⊎ (executed system run i (suc t) ≡ suc (executed system run i t))
      → executed system run i (suc t) ≤ released (jobs_of run i) t
  executed_next t h (inl same) = omega (arith, executed_released system sound run legal i is t (omega arith))
  executed_next t h (inr more) = omega (arith, running_pending system sound run legal i is t h (executed_grew system run i t more).1)

  -- up to its release nothing of a job is executed
  pub executed_by_release : (k : ℕ) → k < length (jobs_of run i) → (t : ℕ) → t ≤ (job_at (jobs_of run i) k).release
      → executed system run i t ≤ work_before (jobs_of run i) k 0
  executed_by_release k job zero h = omega (arith, executed_zero system run i)
  executed_by_release k job (suc t) h = elim (cases_lt t run.table.ticks) [
    | inl below ↦ omega (
      arith,
      executed_next t below (executed_climbs system run i t),
      earlier_work (jobs_of run i) k,
      released_before t (jobs_of run i) k (λ l le lt. omega (arith, releases_in_order system sound run legal i is k l le lt)),
    )
    | inr past ↦ omega (
      arith,
      executed_past system run i (suc t) t (omega (arith, core_ticks system sound run legal i is)) (omega (arith, core_ticks system sound run legal i is)),
      executed_by_release k job t (omega arith),
    )
  ]

  -- where some of a job is executed by t, the job was released that much before t
  pub executed_late : (k : ℕ) → k < length (jobs_of run i) → (t v : ℕ) → executed system run i t ≡ v → work_before (jobs_of run i) k 0 < v
      → (job_at (jobs_of run i) k).release + v ≤ t + work_before (jobs_of run i) k 0
  executed_late k job t v reached some = elim (cases_lt t (job_at (jobs_of run i) k).release) [
    | inl early ↦ absurd (omega (arith, executed_by_release k job t (omega arith)))
    | inr late ↦ omega (
      arith,
      climb_slow (executed system run i) (executed_climbs system run i) (job_at (jobs_of run i) k).release t late,
      executed_by_release k job (job_at (jobs_of run i) k).release (omega arith),
    )
  ]

  -- a runnable starts after its job's release and the job's work before it
  pub starts_late : (k p t : ℕ) → Starts system run i k p t
      → (job_at (jobs_of run i) k).release + work_before (jobs_of run i) k p ≤ t + work_before (jobs_of run i) k 0
  starts_late k p t starts = omega (
    arith,
    executed_late k starts.in_table (suc t) (suc (work_before (jobs_of run i) k p)) (start_grows system run i k p t starts).after
        (omega (arith, places_rise (jobs_of run i) k 0 p (omega arith))),
  )

  -- and finishes after the release and the job's work up to it
  pub finishes_late : (k p t : ℕ) → Finishes system run i k p t
      → (job_at (jobs_of run i) k).release + work_through (jobs_of run i) k p ≤ t + work_before (jobs_of run i) k 0
  finishes_late k p t finishes = executed_late k finishes.in_table t (work_through (jobs_of run i) k p) finishes.reached (omega (
    arith,
    places_rise (jobs_of run i) k 0 p (omega arith),
    time_positive system sound run legal i is k p finishes.in_table finishes.is_runnable,
  ))

-- two finishes lie as far apart as the work between them
pub finishes_apart : (system : System) (run : Run) (i k p q s t : ℕ) → Finishes system run i k p s → Finishes system run i k q t
    → work_through (jobs_of run i) k p ≤ work_through (jobs_of run i) k q
    → s + work_through (jobs_of run i) k q ≤ t + work_through (jobs_of run i) k p
finishes_apart system run i k p q s t one other h = omega (
  arith,
  one.reached,
  other.reached,
  climb_slow (executed system run i) (executed_climbs system run i) s t
      (finish_earliest system run i k p s t one (omega (arith, other.reached))),
)
