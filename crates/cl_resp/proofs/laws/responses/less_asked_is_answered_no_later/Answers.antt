use Rattle.cl_resp.proofs.LessAsked.{answered_no_later}
use Rattle.cl_resp.proofs.laws.responses.less_asked_is_answered_no_later.Goals as goal

pub returns : goal.returns
returns c = answered_no_later
