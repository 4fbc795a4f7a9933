use Rattle.cl_resp.proofs.LeastRound.{asked_comes_round}
use Rattle.cl_resp.proofs.laws.by_phase.what_is_asked_by_phase_comes_round.Goals as goal

pub returns : goal.returns
returns c = asked_comes_round
