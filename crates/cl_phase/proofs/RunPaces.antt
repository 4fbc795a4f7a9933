-- The jobs of a legal run go at the pace of their task's pattern.
use Rattle.std.proofs.Common.{ℕ, suc, ◌<◌, pos, ◌+ℤ◌, ◌≤ℤ◌, length, sym, subst}
use Rattle.cl_runs.specs.{TaskTiming.{System, timing_at, IsSound}, Table.job_at, Run.{Run, jobs_of}, Legal.IsLegal}
use Rattle.cl_stim.proofs.RunPhases.{run_in_phase, run_within}
use Rattle.cl_phase.specs.{declared.pace.Pace.{Pace, TheVariants.{Kept, Free}}, Pace.AreNeighbours}
use Rattle.cl_phase.proofs.PatternPaces.{IsPaceOf}

-- a job and the next are neighbours, at each pace that is known of the task
pub run_neighbours : (system : System) (sound : IsSound system) (run : Run) (legal : IsLegal system run) (task : ℕ) (is : task < length system.tasks)
    → (pace : Pace) → IsPaceOf (timing_at system task).pattern pace → (job : ℕ) → suc job < length (jobs_of run task)
    → AreNeighbours pace (pos (job_at (jobs_of run task) job).arrival) (pos (job_at (jobs_of run task) (suc job)).arrival)
run_neighbours system sound run legal task is (Kept phase) has job below = run_in_phase system sound run legal task is phase has job below
run_neighbours system sound run legal task is (Free greatest) same job below =
    subst (λ n. pos (job_at (jobs_of run task) (suc job)).arrival ≤ℤ (pos (job_at (jobs_of run task) job).arrival +ℤ pos n)) (sym same)
    (run_within system sound run legal task is job below)
