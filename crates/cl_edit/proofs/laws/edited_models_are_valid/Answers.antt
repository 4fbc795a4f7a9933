use Rattle.cl_edit.proofs.EditedValid.{edited_valid}
use Rattle.cl_edit.proofs.laws.edited_models_are_valid.Goals as goal

pub returns : goal.returns
returns c = edited_valid
