use Rattle.cl_resp.proofs.ClearMoments.{clear_first, beginning_there}
use Rattle.cl_resp.proofs.laws.clear.windows_begin.Goals as goal

pub returns-clause-first : goal.returns-clause-first
returns-clause-first c = clear_first

pub returns-clause-there : goal.returns-clause-there
returns-clause-there c = beginning_there
