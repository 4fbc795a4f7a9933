use Rattle.cl_tight.proofs.TightChains.{timely_complete}
use Rattle.cl_tight.proofs.laws.complete.timely_chains_complete.Goals as goal

pub returns : goal.returns
returns c = timely_complete
