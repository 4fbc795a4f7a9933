use Rattle.cl_resp.proofs.EnoughAsked.{tight_asks_no_more}
use Rattle.cl_resp.proofs.laws.questions.tight_questions_ask_no_more.Goals as goal

pub returns : goal.returns
returns c = tight_asks_no_more
