use Rattle.std.proofs.Common.{◌∙◌}
use Rattle.cl_gen.proofs.Words.{first_generator}
use Rattle.cl_gen.proofs.draws.Draws.of_seed.Goals as goal

pub invariant_of-result : goal.invariant_of-result
invariant_of-result c = c.seed_from_u64.ensures ∙ first_generator c.args.seed
