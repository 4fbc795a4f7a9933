use Rattle.cl_exact.proofs.{ExactOnce.within_or_past, SomeExact.within_or_past_limit}
use Rattle.cl_exact.proofs.laws.lengths.chains_are_within_the_limit_or_past_it.Goals as goal

pub returns-clause-not_both : goal.returns-clause-not_both
returns-clause-not_both c = within_or_past

pub returns-clause-either : goal.returns-clause-either
returns-clause-either c = within_or_past_limit
