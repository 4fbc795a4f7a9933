use Rattle.cl_why.proofs.WindowShares.{shares_add_up}
use Rattle.cl_why.proofs.laws.shares_add_up_to_windows.Goals as goal

pub returns : goal.returns
returns c = shares_add_up
