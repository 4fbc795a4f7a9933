use Rattle.cl_top.proofs.EditPieces.{safe_pieces}
use Rattle.cl_top.proofs.laws.outcomes.edits_write_what_is_safe.Goals as goal

pub returns : goal.returns
returns c = safe_pieces
