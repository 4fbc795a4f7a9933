use Rattle.cl_edit.proofs.NamedEdits.{edited_named}
use Rattle.cl_edit.proofs.laws.edited_models_are_named.Goals as goal

pub returns : goal.returns
returns c = edited_named
