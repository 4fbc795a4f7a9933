-- What an arrival pattern promises of a list of jobs.
use Rattle.std.specs.Prelude.{◌≡◌, ℕ, suc, ◌+◌, ◌<◌, ◌≤◌, List, length}
use Rattle.cl_runs.specs.{declared.job.Job.Job, Table.job_at}
use Rattle.cl_stim.specs.Releases.{releases_in}

-- at most `most` jobs are released in any `width` consecutive ticks
abbrev pub AreFew : (most width : ℕ) → List Job → Type 0
AreFew most width jobs = (start : ℕ) → releases_in jobs start width ≤ most

-- each job but the first arrives `least` to `greatest` ticks after the one before it
pub record HaveGaps (least greatest : ℕ) (jobs : List Job) : Type 0 where
  pub not_early : (k : ℕ) → suc k < length jobs → (job_at jobs k).arrival + least ≤ (job_at jobs (suc k)).arrival
  pub not_late : (k : ℕ) → suc k < length jobs → (job_at jobs (suc k)).arrival ≤ (job_at jobs k).arrival + greatest

-- where there is a last job, no more than `gap` ticks are left from its arrival on
abbrev pub ReachEnd : (gap ticks : ℕ) → List Job → Type 0
ReachEnd gap ticks jobs = (k : ℕ) → suc k ≡ length jobs → ticks ≤ (job_at jobs k).arrival + gap

-- each job is released at its arrival or at most `jitter` ticks later
pub record AreReleased (jitter : ℕ) (jobs : List Job) : Type 0 where
  pub not_early : (k : ℕ) → k < length jobs → (job_at jobs k).arrival ≤ (job_at jobs k).release
  pub not_late : (k : ℕ) → k < length jobs → (job_at jobs k).release ≤ (job_at jobs k).arrival + jitter
