use Rattle.cl_stim.proofs.Releases.{most_rises}
use Rattle.cl_stim.proofs.laws.most_releases_never_falls.Goals as goal

pub returns : goal.returns
returns c = most_rises
