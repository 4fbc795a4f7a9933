-- The execution times of a lawful job: one per runnable, each at least one tick.
use Rattle.std.proofs.Common.{◌≡◌, ℕ, ◌<◌, ◌≤◌, false, length, arith}
use Rattle.std.specs.Prelude.{slice_index}
use Rattle.std.proofs.lemmas.Slice.Zip.{AllZip-long}
use Rattle.cl_runs.specs.{TaskTiming.{TimeRange, Timing, IsSoundTask}, declared.job.Job.Job, Table.{LiesIn, HasTimes}}
use Rattle.cl_runs.proofs.ZippedLists.{zip_at}

-- a lawful job has one time per runnable
pub times_length : (task : Timing) (job : Job) → HasTimes task job → length job.times ≡ length task.ranges
times_length task job times = AllZip-long LiesIn task.ranges job.times times

-- and each is at least one tick
pub times_positive : (cores : ℕ) (task : Timing) → IsSoundTask cores task → (job : Job) → HasTimes task job
    → (p : ℕ) → p < length task.ranges → 1 ≤ slice_index job.times p
times_positive cores task sound job times p h =
    let d : TimeRange = record { least = 0; greatest = 0; whole = false } in
    let range = sound.times p d h in
    let time = zip_at LiesIn task.ranges job.times times d 0 p h in
    omega (arith, range.0, time.0)
