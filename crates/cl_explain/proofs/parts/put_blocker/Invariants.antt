use Rattle.std.proofs.Common.{◌≡◌}
use Rattle.std.specs.Prelude.{None}
use Rattle.cl_explain.proofs.Blockers.{blocker_below}
use Rattle.cl_explain.proofs.parts.put_blocker.Given as goal

-- no task so far has one
abbrev pub invariant-loop-other : goal.invariant-loop-other
invariant-loop-other l = (l.text ≡ l.initial.text) × (blocker_below l.blocking l.model l.task l.block l.other ≡ None)
