use Rattle.std.proofs.Common.{sym}
use Rattle.std.proofs.lemmas.Result.{IfOk-weaker}
use Rattle.cl_engine.proofs.Answered.{refused_comes}
use Rattle.cl_engine.proofs.running.find_outcome.Goals as goal

pub returns-in-None-clause-comes : goal.returns-in-None-clause-comes
returns-in-None-clause-comes g c = IfOk-weaker c.words_refused.result _ _ (λ found is. refused_comes g.C.Command.language _ _ (sym c.in-None.ensures.spelled) found is) c.words_refused.ensures
