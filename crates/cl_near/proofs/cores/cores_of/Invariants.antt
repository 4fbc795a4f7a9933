use Rattle.std.proofs.Common.{◌≡◌, length}
use Rattle.cl_near.specs.Inner.Cores.{AreMarked}
use Rattle.cl_near.proofs.cores.cores_of.Given as goal

abbrev pub invariant-loop-group : goal.invariant-loop-group
invariant-loop-group l = record {
  long : length l.cores ≡ length l.model.cores;
  marked : AreMarked l.model l.groups l.group-index l.cores;
}
