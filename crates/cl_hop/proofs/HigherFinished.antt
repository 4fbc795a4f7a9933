-- Where a runnable starts, a task of higher priority on its core has finished each job that is released.
use Rattle.std.proofs.Common.{◌≡◌, ℕ, suc, ◌-◌, ◌<◌, ◌≤◌, inl, inr, length, arith}
use Rattle.std.proofs.lemmas.Bool.{cases_lt}
use Rattle.cl_runs.specs.{TaskTiming.{System, timing_at, IsSound}, Table.job_at, Run.{Run, jobs_of, executed}, Legal.{released, IsLegal}, Moments.{Starts, JobFinishes}}
use Rattle.cl_runs.proofs.{Holding.start_pending, Work.{through_job, released_first}, LegalFacts.job_places, RunArrivals.releases_in_order, StartsFinishes.finishes_by}

module _ (system : System) (sound : IsSound system) (run : Run) (legal : IsLegal system run) (x y : ℕ)
    (is_x : x < length system.tasks)
    (same_core : (timing_at system x).core ≡ (timing_at system y).core)
    (higher : (timing_at system y).priority < (timing_at system x).priority) where
  -- where a runnable of y starts, all released work of x is executed
  none_pending : (k p r : ℕ) → Starts system run y k p r → released (jobs_of run x) r ≤ executed system run x r
  none_pending k p r starts = elim (cases_lt (executed system run x r) (released (jobs_of run x) r)) [
    | inl pending ↦
        let first = start_pending system sound run legal y k p r starts in
        absurd (omega (arith, higher, first.highest x is_x same_core pending))
    | inr done ↦ done
  ]

  -- and each job of x that is released has finished
  pub finished_before : (k p r m : ℕ) → Starts system run y k p r → m < length (jobs_of run x) → (job_at (jobs_of run x) m).release ≤ r
      → (f : ℕ) × (f ≤ r) × JobFinishes system run x m f
  finished_before k p r m starts job is_released =
      let place : length (timing_at system x).ranges - 1 < length (timing_at system x).ranges = omega (arith, (sound.tasks x is_x).some_runnable) in
      finishes_by system run x m (length (timing_at system x).ranges - 1) r job place (omega (arith, starts.below_end)) (omega (
        arith,
        through_job (jobs_of run x) m (length (timing_at system x).ranges - 1) job (omega (arith, place, job_places system sound run legal x is_x m job)),
        released_first (jobs_of run x) (suc m) r
            (λ k early. omega (arith, is_released, releases_in_order system sound run legal x is_x k m (omega arith) job)),
        none_pending k p r starts,
      ))
