-- The two uses of job chains: over the moments of a run, and over the ideal moments of periodic timed tasks.
use Rattle.std.specs.Prelude.{◌≡◌, ℕ, ◌+◌, ◌*◌}
use Rattle.cl_model.specs.declared.stimulus.StimulusKind.{StimulusKind, TheVariants.{Periodic, Sporadic, Burst}}
use Rattle.cl_runs.specs.{TaskTiming.{System, timing_at}, Run.Run, Moments.{Reads, Writes}, Chains.Moments}

-- a group reads at its first runnable and writes at its last
unfoldable pub run_moments : System → Run → Moments
run_moments system run = record {
  reads = λ group job tick. Reads system run group.task job group.first tick;
  writes = λ group job tick. Writes system run group.task job group.last tick;
}

-- a job of a periodic pattern arrives at a tick; the ideal moments are those of periodic tasks alone
abbrev pub ArrivesAt : StimulusKind → (job tick : ℕ) → Type 0
ArrivesAt (Periodic period offset jitter) job tick = tick ≡ offset + job * period
ArrivesAt (Sporadic least greatest) job tick = ⊥
ArrivesAt (Burst period offset count distance) job tick = ⊥

-- the ideal moments of periodic timed tasks, without an end of the run: job k reads at `offset + k * period`, and
-- writes its task's deadline later
unfoldable pub ideal_moments : System → Moments
ideal_moments system = record {
  reads = λ group job tick. ArrivesAt (timing_at system group.task).pattern job tick;
  writes = λ group job tick.
      (arrival : ℕ) × ArrivesAt (timing_at system group.task).pattern job arrival × (tick ≡ arrival + (timing_at system group.task).deadline);
}
