use Rattle.std.proofs.Common.{◌-◌}
use Rattle.cl_margin.proofs.Halving.{IsHalved}
use Rattle.cl_margin.proofs.searching.Search.ask.Given as goal

abbrev pub invariant-loop-end : goal.invariant-loop-end
invariant-loop-end g l = IsHalved l.standing.model.now l.whose l.item l.fn.self.percent l.kept l.end l.trial

abbrev pub decreases-loop-end : goal.decreases-loop-end
decreases-loop-end g l = l.end - l.kept
