-- A run goes on to every greater length.
use Rattle.std.specs.Prelude.{ℕ, ◌≤◌}
use Rattle.cl_runs.specs.{TaskTiming.System, Run.Run, Continuation.HasContinuation}

-- there is a legal run of every greater length that goes on from it, with its moments and chains
abbrev pub HasContinuations : System → Run → Type 0
HasContinuations system run = (ticks : ℕ) → run.table.ticks ≤ ticks → HasContinuation system run ticks
