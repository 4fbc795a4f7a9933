use Rattle.std.proofs.Common.{subst, sym, Option}
use Rattle.std.specs.Option.{option_to_list, IfSome}
use Rattle.cl_stim.specs.{declared.phase.Phase.Phase, Phase.IsPhaseInRange}
use Rattle.cl_cycle.specs.Inner.Gathering.{AreTogether}
use Rattle.cl_cycle.proofs.GatheredPhases.{none_together, one_together}
use Rattle.cl_cycle.proofs.cycle.Together.begin.Goals as goal

pub returns-in-Some : goal.returns-in-Some
returns-in-Some c =
    let phase = c.in-Some.phase in
    subst (λ (own : Option Phase). AreTogether (option_to_list own) phase.period phase.count) (sym c.in-Some.is)
    (one_together phase (subst (λ (own : Option Phase). IfSome own IsPhaseInRange) c.in-Some.is c.requires))

pub returns-in-None : goal.returns-in-None
returns-in-None c = subst (λ (own : Option Phase). AreTogether (option_to_list own) 1 0) (sym c.in-None.is) none_together
