use Rattle.cl_cut.proofs.SafeCuts.{cut_safe}
use Rattle.cl_cut.proofs.laws.cuts_are_safe.Goals as goal

pub returns : goal.returns
returns c = cut_safe
