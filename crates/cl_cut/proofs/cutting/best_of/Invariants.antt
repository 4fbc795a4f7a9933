use Rattle.std.proofs.Common.{◌-◌, length}
use Rattle.cl_runs.specs.SystemOf.{system_of}
use Rattle.cl_cut.specs.Inner.Rears.{AreRears, CostSome}
use Rattle.cl_cut.proofs.cutting.best_of.Given as goal

abbrev pub invariant-loop-alloc : goal.invariant-loop-alloc
invariant-loop-alloc g l = record {
  costs : CostSome l.rears.items;
  known : AreRears (system_of l.model) l.groups l.rears.items;
}

abbrev pub decreases-loop-alloc : goal.decreases-loop-alloc
decreases-loop-alloc g l = length l.groups - length l.rears.items
