use Rattle.std.proofs.Common.{None, length}
use Rattle.cl_runs.specs.Run.{core_entries}
use Rattle.cl_trace.specs.Inner.Bodies.{AreEntriesOf, IsRunWith}
use Rattle.cl_trace.proofs.StretchItems.{EndsOther}
use Rattle.cl_trace.proofs.run_lines.entries_after.Given as goal

abbrev pub invariant-loop-line : goal.invariant-loop-line
invariant-loop-line l = IsRunWith l.fn.run l.run l.core (core_entries l.run l.core)
    × AreEntriesOf l.model l.fn.run.table.ticks l.core l.initial.left (core_entries l.run l.core) l.left
    × EndsOther (core_entries l.run l.core) None

abbrev pub decreases-loop-line : goal.decreases-loop-line
decreases-loop-line l = length l.left
