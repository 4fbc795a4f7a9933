-- What the examples share, and two facts of the sporadic one.
use Rattle.std.proofs.Common.{ℕ, zero, suc, ◌<◌, ◌≤◌, Bool, [], ◌∷◌, arith}
use Rattle.std.specs.Prelude.{All}
use Rattle.std.proofs.lemmas.List.Elements.{All-from_recursion}
use Rattle.cl_model.specs.declared.{stimulus.StimulusKind.TheVariants.Periodic, task.AccessKind.AccessKind}
use Rattle.cl_runs.specs.{Table.{HasTimes, AreLawfulJobs}, TaskTiming.{TimeRange, Timing, IsSoundTask}}
use Rattle.cl_examples.specs.Examples.{sporadic_task, two_jobs}

-- what holds of 0 and of 1 holds of each number below 2
pub both : (P : ℕ → Type 0) → P 0 → P 1 → (i : ℕ) → i < 2 → P i
both P zeroth first zero h = zeroth
both P zeroth first (suc zero) h = first
both P zeroth first (suc (suc i)) h = absurd (omega arith)

-- what holds of one holds of each of a list of that one
only : (P : TimeRange → Type 0) (range : TimeRange) → P range → All P (range ∷ [])
only P range holds zero d h = holds
only P range holds (suc n) d h = absurd (omega arith)

-- a periodic task of one runnable of one time, without jitter
abbrev pub plain_task : (core priority deadline period offset time : ℕ) → AccessKind → (whole : Bool) → Timing
plain_task core priority deadline period offset time access whole = record {
  core = core;
  priority = priority;
  deadline = deadline;
  pattern = Periodic period offset 0;
  access = access;
  ranges = record { least = time; greatest = time; whole = whole } ∷ [];
}

-- is sound
pub plain_task_sound : (cores core priority deadline period offset time : ℕ) (access : AccessKind) (whole : Bool)
    → core < cores → 1 ≤ time → 1 ≤ deadline → deadline ≤ period
    → IsSoundTask cores (plain_task core priority deadline period offset time access whole)
plain_task_sound cores core priority deadline period offset time access whole on some later within = record {
  on_core = on;
  some_runnable = omega arith;
  times = only (λ (range : TimeRange). (1 ≤ range.least) × (range.least ≤ range.greatest)) _ (some, omega arith);
  pattern = omega arith;
  above_jitter = omega arith;
  within_distance = within;
}

pub two_jobs_for_16 : AreLawfulJobs sporadic_task 16 two_jobs
two_jobs_for_16 = record {
  arrivals = (
    record { not_early = omega arith; not_late = omega arith; arrives = omega arith; released = omega arith; in_jitter = omega arith },
    (
      record { not_early = omega arith; not_late = omega arith; arrives = omega arith; released = omega arith; in_jitter = omega arith },
      omega arith,
    ),
  );
  times = All-from_recursion (HasTimes sporadic_task) two_jobs (((omega arith, omega arith), _), (((omega arith, omega arith), _), _));
}

pub two_jobs_not_for_17 : AreLawfulJobs sporadic_task 17 two_jobs → ⊥
two_jobs_not_for_17 lawful = let arrivals = lawful.arrivals in omega (arith, arrivals.1.1)
