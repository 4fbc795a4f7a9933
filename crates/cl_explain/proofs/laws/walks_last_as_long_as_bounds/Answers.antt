use Rattle.cl_explain.proofs.LongestWalk.{shows_walk}
use Rattle.cl_explain.proofs.laws.walks_last_as_long_as_bounds.Goals as goal

pub returns : goal.returns
returns c = shows_walk
