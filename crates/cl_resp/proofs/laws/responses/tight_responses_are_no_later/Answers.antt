use Rattle.cl_resp.proofs.LessAsked.{tight_no_later}
use Rattle.cl_resp.proofs.laws.responses.tight_responses_are_no_later.Goals as goal

pub returns : goal.returns
returns c = tight_no_later
