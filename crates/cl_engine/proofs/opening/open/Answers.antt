use Rattle.cl_engine.proofs.OpenedFiles.{nothing_of}
use Rattle.cl_engine.proofs.opening.open.Goals as goal

pub returns-in-Nothing-clause-opened : goal.returns-in-Nothing-clause-opened
returns-in-Nothing-clause-opened g c = nothing_of _ _ _ c.in-Nothing.is
