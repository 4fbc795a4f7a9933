use Rattle.cl_stim.proofs.Releases.{well_formed}
use Rattle.cl_stim.proofs.laws.stimuli_are_well_formed.Goals as goal

pub returns : goal.returns
returns c = well_formed
