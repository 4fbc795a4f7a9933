use Rattle.cl_exact.proofs.Turns.{forward_twins}
use Rattle.cl_exact.proofs.laws.turns.one_hyperperiod_shows_all.Goals as goal

pub returns : goal.returns
returns c = forward_twins
