-- The arrivals and releases of a task's jobs in a legal run of a sound system.
use Rattle.std.proofs.Common.{◌≡◌, ℕ, suc, ◌+◌, ◌<◌, ◌≤◌, inl, inr, length, ap, arith}
use Rattle.std.proofs.lemmas.Bool.{cases_lt}
use Rattle.cl_model.specs.Timing.{least_distance, greatest_distance, greatest_jitter}
use Rattle.cl_runs.specs.{TaskTiming.{System, timing_at, IsSound}, Arrivals.FollowPattern, Table.job_at, Run.{Run, jobs_of}, Legal.IsLegal}
use Rattle.cl_runs.proofs.ArrivalFacts as facts

module _ (system : System) (sound : IsSound system) (run : Run) (legal : IsLegal system run) (i : ℕ) (is : i < length system.tasks) where
  pub follow_pattern : FollowPattern (timing_at system i).pattern run.table.ticks (jobs_of run i)
  follow_pattern = (legal.lawful.jobs i is).arrivals

  pub arrives_below : (k : ℕ) → k < length (jobs_of run i) → (job_at (jobs_of run i) k).arrival < run.table.ticks
  arrives_below = facts.arrives_below (timing_at system i).pattern run.table.ticks (jobs_of run i) follow_pattern

  -- each later job arrives at least the least distance later
  pub arrivals_apart : (k l : ℕ) → k < l → l < length (jobs_of run i)
      → (job_at (jobs_of run i) k).arrival + least_distance (timing_at system i).pattern ≤ (job_at (jobs_of run i) l).arrival
  arrivals_apart = facts.arrivals_apart (timing_at system i).pattern (sound.tasks i is).pattern run.table.ticks (jobs_of run i) follow_pattern

  pub arrivals_rise : (k l : ℕ) → k < l → l < length (jobs_of run i)
      → (job_at (jobs_of run i) k).arrival < (job_at (jobs_of run i) l).arrival
  arrivals_rise = facts.arrivals_rise (timing_at system i).pattern (sound.tasks i is).pattern run.table.ticks (jobs_of run i) follow_pattern

  -- and hence at or after the deadline of each earlier one
  pub arrives_after_deadline : (k l : ℕ) → k < l → l < length (jobs_of run i)
      → (job_at (jobs_of run i) k).arrival + (timing_at system i).deadline ≤ (job_at (jobs_of run i) l).arrival
  arrives_after_deadline k l h below = omega (arith, arrivals_apart k l h below, (sound.tasks i is).within_distance)

  -- the next job arrives within the greatest distance
  pub next_within : (k : ℕ) → suc k < length (jobs_of run i)
      → (job_at (jobs_of run i) (suc k)).arrival ≤ (job_at (jobs_of run i) k).arrival + greatest_distance (timing_at system i).pattern
  next_within = facts.next_within (timing_at system i).pattern (sound.tasks i is).pattern run.table.ticks (jobs_of run i) follow_pattern

  -- and there is one where that lies in the run
  pub next_due : (k : ℕ) → k < length (jobs_of run i)
      → (job_at (jobs_of run i) k).arrival + greatest_distance (timing_at system i).pattern < run.table.ticks → suc k < length (jobs_of run i)
  next_due = facts.next_due (timing_at system i).pattern (sound.tasks i is).pattern run.table.ticks (jobs_of run i) follow_pattern

  -- a job is released at its arrival or within the jitter of it
  pub released_late : (k : ℕ) → k < length (jobs_of run i) → (job_at (jobs_of run i) k).arrival ≤ (job_at (jobs_of run i) k).release
  released_late = facts.released_late (timing_at system i).pattern run.table.ticks (jobs_of run i) follow_pattern

  pub released_within : (k : ℕ) → k < length (jobs_of run i)
      → (job_at (jobs_of run i) k).release ≤ (job_at (jobs_of run i) k).arrival + greatest_jitter (timing_at system i).pattern
  released_within = facts.released_within (timing_at system i).pattern run.table.ticks (jobs_of run i) follow_pattern

  -- no job is released after a later one
  pub releases_in_order : (k l : ℕ) → k ≤ l → l < length (jobs_of run i)
      → (job_at (jobs_of run i) k).release ≤ (job_at (jobs_of run i) l).release
  releases_in_order k l h below = elim (cases_lt k l) [
    | inl earlier ↦ omega (
      arith,
      released_within k (omega arith),
      (sound.tasks i is).above_jitter,
      arrives_after_deadline k l earlier below,
      released_late l below,
    )
    | inr same ↦ let one : k ≡ l = omega arith in omega (arith, ap (λ n. (job_at (jobs_of run i) n).release) one)
  ]
