use Rattle.std.proofs.Common.{◌≡◌, ℕ, ◌≤◌, [], length}
use Rattle.cl_runs.specs.Run.{core_entries}
use Rattle.cl_trace.specs.Inner.Bodies.{AreCores}
use Rattle.cl_trace.proofs.run_lines.runs_after.Given as goal

abbrev pub invariant-loop-core : goal.invariant-loop-core
invariant-loop-core l = (l.run.table ≡ l.fn.run.table) × (length l.run.entries ≡ length l.fn.run.entries)
    × ((core : ℕ) → l.core ≤ core → core_entries l.run core ≡ [])
    × AreCores l.model l.fn.run.table.ticks l.core l.initial.left l.run l.left
