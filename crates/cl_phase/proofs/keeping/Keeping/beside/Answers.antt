use Rattle.std.proofs.Common.{sym, ◌∙◌}
use Rattle.cl_phase.proofs.KeptPhases.{without_phase, with_late_phase}
use Rattle.cl_phase.proofs.keeping.Keeping.beside.Goals as goal

pub returns-in_default-clause-beside : goal.returns-in_default-clause-beside
returns-in_default-clause-beside c kept are =
    rw c.greatest_distance.ensures (without_phase c.args.kind c.requires.range c.requires.ordered kept c.args.self are (sym c.of.ensures.phase ∙ c.in_default.is))

pub returns-in-None-clause-beside : goal.returns-in-None-clause-beside
returns-in-None-clause-beside c kept are =
    rw c.greatest_distance.ensures (with_late_phase c.args.kind c.requires.range c.requires.ordered kept c.args.self are c.in-Some.phase
    (sym c.of.ensures.phase ∙ c.in-Some.is) (c.in-None.ensures.too_long kept are))
