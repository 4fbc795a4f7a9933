use Rattle.cl_runs.proofs.ModelSystem.{system_sound}
use Rattle.cl_runs.proofs.laws.soundness.valid_models_are_sound.Goals as goal

pub returns : goal.returns
returns c = system_sound
