use Rattle.cl_stim.proofs.ValidStimuli.{has_stimulus}
use Rattle.cl_stim.proofs.laws.valid_models_have_stimuli.Goals as goal

pub returns : goal.returns
returns c = has_stimulus
