-- A lawful job table has at most as many executions of runnables as are counted before anything is drawn.
use Rattle.std.proofs.Common.{◌≡◌, ℕ, suc, ◌+◌, ◌*◌, ◌<◌, ◌≤◌, List, [], ◌∷◌, length, get_or, arith}
use Rattle.std.specs.Prelude.{sum_by, All}
use Rattle.std.proofs.Math.Nat.{mul-le-mul_left}
use Rattle.std.proofs.lemmas.List.Elements.{All-head, All-tail}
use Rattle.std.proofs.lemmas.List.Sums.{sum_by-cons}
use Rattle.cl_model.specs.{declared.model.SystemModel.SystemModel, Validity.IsValid}
use Rattle.cl_runs.specs.{declared.job.{Job.Job, JobTable.JobTable}, TaskTiming.{Timing, no_timing}, SystemOf.system_of, Table.{HasTimes, AreLawfulJobs, IsLawful}}
use Rattle.cl_runs.proofs.{LawfulJobs.times_length, ModelSystem.system_sound}
use Rattle.cl_gen.specs.Count.{arrival_count, task_executions, execution_count}
use Rattle.cl_gen.proofs.CountedJobs.{jobs_counted}
use Rattle.cl_trace.specs.Executions.{job_executions, executions}

-- a sum of terms none of which is greater is no greater
sums_below : {X Y : Type 0} (f : X → ℕ) (g : Y → ℕ) (d : X) (e : Y) (xs : List X) (ys : List Y) → length xs ≡ length ys
    → ((i : ℕ) → i < length ys → f (get_or xs i d) ≤ g (get_or ys i e)) → sum_by f xs ≤ sum_by g ys
sums_below f g d e [] ys same each = omega arith
sums_below f g d e (x ∷ xs) [] same each = absurd (omega (arith, same))
sums_below f g d e (x ∷ xs) (y ∷ ys) same each = omega (
  arith,
  sum_by-cons f x xs,
  sum_by-cons g y ys,
  each 0 (omega arith),
  sums_below f g d e xs ys (omega (arith, same)) (λ i below. each (suc i) (omega (arith, below))),
)

-- each job has one time for each runnable
jobs_executions : (task : Timing) (jobs : List Job) → All (HasTimes task) jobs → job_executions jobs ≡ length jobs * length task.ranges
jobs_executions task [] times = omega arith
jobs_executions task (job ∷ jobs) times =
    let more : suc (length jobs) * length task.ranges ≡ length jobs * length task.ranges + length task.ranges = omega arith in
    omega (
      arith,
      more,
      sum_by-cons (λ (j : Job). length j.times) job jobs,
      times_length task job (All-head (HasTimes task) job jobs times),
      jobs_executions task jobs (All-tail (HasTimes task) job jobs times),
    )

task_counted : (cores : ℕ) (task : Timing) → Rattle.cl_runs.specs.TaskTiming.IsSoundTask cores task → (ticks : ℕ) (jobs : List Job)
    → AreLawfulJobs task ticks jobs → job_executions jobs ≤ task_executions ticks task
unfolding task_executions
task_counted cores task sound ticks jobs lawful =
    let few : length task.ranges * length jobs ≤ length task.ranges * arrival_count task.pattern ticks
    = mul-le-mul_left (length task.ranges) (jobs_counted task.pattern sound.pattern ticks jobs lawful.arrivals) in
    let turned : length jobs * length task.ranges ≡ length task.ranges * length jobs = omega arith in
    omega (arith, jobs_executions task jobs lawful.times, turned, few)

pub table_counted : (model : SystemModel) → IsValid model → (table : JobTable) → IsLawful (system_of model) table
    → executions table ≤ execution_count model table.ticks
table_counted model valid table lawful = sums_below job_executions (task_executions table.ticks) [] no_timing table.jobs (system_of model).tasks
    lawful.tasks (λ i below. task_counted _ _ ((system_sound model valid).tasks i below) table.ticks _ (lawful.jobs i below))
