use Rattle.cl_stim.proofs.Releases.{few_releases}
use Rattle.cl_stim.proofs.laws.releases_are_few.Goals as goal

pub returns : goal.returns
returns c = few_releases
