use Rattle.cl_lanes.proofs.GreatestGaps.{greatest_of}
use Rattle.cl_lanes.proofs.greatest.greatest_gap.Goals as goal

pub returns-else-is_empty-clause-greatest : goal.returns-else-is_empty-clause-greatest
returns-else-is_empty-clause-greatest c = greatest_of _ _ _ c.requires.as_many c.greatest_with_rest.ensures.one_of c.greatest_with_rest.ensures.above
