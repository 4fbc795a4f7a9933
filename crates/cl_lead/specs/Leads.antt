-- The leads of the runnables of tasks. Times are in ticks.
use Rattle.std.specs.Prelude.{◌≡◌, ℕ, suc, pos, ◌-◌, ◌*◌, ◌<◌, ◌≤◌, Bool, true, false, sum_by, Option, Some, None}
use Rattle.std.specs.Int.{◌∣◌}
use Rattle.cl_model.specs.declared.{stimulus.StimulusKind.{StimulusKind, TheVariants.{Periodic, Sporadic, Burst}}, task.AccessKind.{AccessKind, TheVariants.{Explicit, Implicit, Timed}}}
use Rattle.cl_runs.specs.{TaskTiming.{System, timing_at}, Priorities.tasks_above}
use Rattle.cl_stim.specs.{declared.phase.Phase.Phase, Phase.phase_of}
use Rattle.cl_comm.specs.Windows.{least_times, spot_at}
use Rattle.cl_cycle.specs.{Counts.{arrivals_from, arrivals_of}, Cycles.{is_one_of, in_phase_above, cycle_of}}
use Rattle.cl_lead.specs.Ahead.{Ahead, least_lead}

-- one arrival each period
abbrev pub each_period : (period offset : ℕ) → Phase
each_period period offset = record { period = period; offset = offset; count = 1; distance = period }

-- how many jobs are released in any case from a moment on, up to so many ticks later: of a periodic
-- task in phase those that arrive from it on, and whose latest release isn't later. Bursts don't
-- count: their phase may have arrivals before that of their first job.
abbrev pub surely_released : (in_phase : Bool) → StimulusKind → (from width : ℕ) → ℕ
surely_released true (Periodic period offset jitter) from width = arrivals_from (each_period period offset) (pos from) (suc width - jitter)
surely_released true (Sporadic least greatest) from width = 0
surely_released true (Burst period offset count distance) from width = 0
surely_released false kind from width = 0

-- how long these run at least
abbrev pub surely_taken : System → (in_phase : ℕ → Bool) → (from width other : ℕ) → ℕ
surely_taken system in_phase from width other =
    surely_released (in_phase other) (timing_at system other).pattern from width * least_times (timing_at system other).ranges

-- and those of all tasks above, of which these are in phase
unfoldable pub work_above : System → (in_phase : ℕ → Bool) → (task : ℕ) → (from width : ℕ) → ℕ
work_above system in_phase task from width = sum_by (surely_taken system in_phase from width) (tasks_above system task)

-- what runs ahead of a runnable with such least times before it, where these tasks are in phase and
-- come round in so many ticks
abbrev pub ahead_of : System → (in_phase : ℕ → Bool) → (cycle task before : ℕ) → Ahead
ahead_of system in_phase cycle task before = record {
  arrivals = arrivals_of (timing_at system task).pattern;
  cycle = cycle;
  before = before;
  deadline = (timing_at system task).deadline;
  work = work_above system in_phase task;
}

-- the least times before a read: of explicit access those before the runnable; else none, since the
-- job reads
abbrev pub before_read : AccessKind → (before : ℕ) → ℕ
before_read Explicit before = before
before_read Implicit before = 0
before_read Timed before = 0

-- whether a read waits for what runs ahead: where it does, the lead counts, else the least times
-- before the read
abbrev pub lead_if : AccessKind → Option Phase → (before lead : ℕ) → ℕ
lead_if Explicit (Some phase) before lead = lead
lead_if Implicit (Some phase) before lead = lead
lead_if Timed (Some phase) before lead = before
lead_if access None before lead = before

-- the lead of a runnable: how long after the arrival of its job it reads at least. A timed one
-- reads as its job arrives; without fixed arrivals nothing is known of what runs ahead.
unfoldable pub lead_with : System → (in_phase : ℕ → Bool) → (cycle task place : ℕ) → ℕ
lead_with system in_phase cycle task place =
    let before = before_read (timing_at system task).access (spot_at (timing_at system task) place).before in
    lead_if (timing_at system task).access (phase_of (timing_at system task).pattern) before
    (least_lead (ahead_of system in_phase cycle task before))

-- the lead by the tasks in phase
unfoldable pub lead_at : System → (task place : ℕ) → ℕ
lead_at system task place = lead_with system (is_one_of (in_phase_above system task)) (cycle_of system task) task place

-- ---- of which tasks a lead can count

-- a task comes round with a cycle, and so do the periodic tasks in phase, whose first jobs arrive
-- before their periods end
pub record IsCommonCycle (system : System) (in_phase : ℕ → Bool) (cycle task : ℕ) : Type 0 where
  pub some : 1 ≤ cycle
  pub own : (arrivals_of (timing_at system task).pattern).period ∣ cycle
  pub divides : (other period offset jitter : ℕ) → in_phase other ≡ true → (timing_at system other).pattern ≡ Periodic period offset jitter
      → period ∣ cycle
  pub early : (other period offset jitter : ℕ) → in_phase other ≡ true → (timing_at system other).pattern ≡ Periodic period offset jitter
      → offset < period
