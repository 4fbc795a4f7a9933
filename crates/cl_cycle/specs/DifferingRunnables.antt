-- Systems whose tasks differ in what they execute alone.
use Rattle.std.specs.Prelude.{◌≡◌, ℕ, length}
use Rattle.cl_runs.specs.TaskTiming.{System, timing_at}

-- two systems have as many tasks, and these differ in their runnables alone
pub record DifferInRunnables (one other : System) : Type 0 where
  pub count : length one.tasks ≡ length other.tasks
  pub cores : (i : ℕ) → (timing_at one i).core ≡ (timing_at other i).core
  pub priorities : (i : ℕ) → (timing_at one i).priority ≡ (timing_at other i).priority
  pub deadlines : (i : ℕ) → (timing_at one i).deadline ≡ (timing_at other i).deadline
  pub patterns : (i : ℕ) → (timing_at one i).pattern ≡ (timing_at other i).pattern
  pub accesses : (i : ℕ) → (timing_at one i).access ≡ (timing_at other i).access
