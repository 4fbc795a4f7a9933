use Rattle.cl_phase.proofs.{TightSafety.tight_within_sums, WiderWalks.tight_within_wider}
use Rattle.cl_phase.proofs.laws.sums.tight_bounds_are_no_greater.Goals as goal

pub returns-clause-sums : goal.returns-clause-sums
returns-clause-sums c = tight_within_sums

pub returns-clause-within : goal.returns-clause-within
returns-clause-within c = tight_within_wider
