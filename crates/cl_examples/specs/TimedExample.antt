-- Two timed tasks on two cores, and the exact lengths of the chain from one to the other.
use Rattle.std.specs.Prelude.{ℕ, ◌-◌, false, [], ◌∷◌}
use Rattle.cl_model.specs.declared.{stimulus.StimulusKind.TheVariants.Periodic, task.AccessKind.TheVariants.Timed}
use Rattle.cl_runs.specs.TaskTiming.{Timing, System}
use Rattle.cl_exact.specs.{declared.witness.Witness.Witness, ExactLengths.Witnesses}

-- task A: a job of 1 tick each 10 ticks, on core 0; it reads at its arrival, and writes 10 ticks later
abbrev pub timed_a : Timing
timed_a = record {
  core = 0;
  priority = 2;
  deadline = 10;
  pattern = Periodic 10 0 0;
  access = Timed;
  ranges = record { least = 1; greatest = 1; whole = false } ∷ [];
}

-- task B: a job of 1 tick each 15 ticks, on core 1; it reads at its arrival, and writes 15 ticks later
abbrev pub timed_b : Timing
timed_b = record timed_a { core = 1; priority = 1; deadline = 15; pattern = Periodic 15 0 0 }

-- A has the number 0, and B the number 1
unfoldable pub timed_tasks : System
timed_tasks = record { cores = 2; tasks = timed_a ∷ timed_b ∷ [] }

-- job m of A and job k of B, with the ends of the chain
abbrev pub witness_of : (m k from to : ℕ) → Witness
witness_of m k from to = record { length = to - from; from = from; to = to; jobs = m ∷ k ∷ [] }

-- a reaction of 45, an age of 45 and a reduced age of 30
abbrev pub timed_lengths : Witnesses
timed_lengths = record { reaction = witness_of 4 4 30 75; age = witness_of 6 5 60 105; reduced = witness_of 6 5 60 90 }
