-- What is known of the cycle of a task.
use Rattle.std.specs.Prelude.{◌≡◌, ℕ, Some}
use Rattle.std.specs.Int.{◌∣◌}
use Rattle.cl_runs.specs.TaskTiming.{System, timing_at}
use Rattle.cl_stim.specs.{declared.phase.Phase.Phase, Phase.phase_of}
use Rattle.cl_cycle.specs.{declared.cycle.Cycle.Cycle, Cycles.{is_one_of, in_phase_above, cycle_of}}

-- the tasks in phase are those that stand in phase above the task, and the ticks are its cycle
pub record IsCycleOf (system : System) (task : ℕ) (cycle : Cycle) : Type 0 where
  pub in_phase : (other : ℕ) → is_one_of cycle.in_phase.items other ≡ is_one_of (in_phase_above system task) other
  pub ticks : cycle.ticks ≡ cycle_of system task

-- a task has fixed arrivals, which come round after so many ticks
pub record ComesRound (system : System) (ticks task : ℕ) : Type 0 where
  pub phase : Phase
  pub fixed : phase_of (timing_at system task).pattern ≡ Some phase
  pub divides : phase.period ∣ ticks
