use Rattle.cl_runs.specs.SystemOf.{system_of}
use Rattle.cl_cut.proofs.ValueFacts.{AreFirstValues}
use Rattle.cl_cut.proofs.values.values_from.Given as goal

abbrev pub invariant-loop-place : goal.invariant-loop-place
invariant-loop-place g l = AreFirstValues (system_of l.model) l.groups l.first l.place l.values.items
