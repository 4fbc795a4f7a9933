use Rattle.cl_draw.proofs.PlaceFacts.{AreTopsBelow}
use Rattle.cl_draw.proofs.places.core_tops.Given as goal

abbrev pub invariant-loop-core : goal.invariant-loop-core
invariant-loop-core l = AreTopsBelow l.model l.core l.tops l.top
