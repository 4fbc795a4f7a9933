use Rattle.cl_top.proofs.EditPieces.{pieces_of_commands}
use Rattle.cl_top.proofs.laws.outcomes.edits_write_what_commands_write.Goals as goal

pub returns : goal.returns
returns c = pieces_of_commands
