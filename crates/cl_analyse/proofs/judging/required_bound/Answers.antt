use Rattle.std.proofs.Common.{sym, ap}
use Rattle.cl_analyse.specs.{declared.findings.ChainAnswer.TheVariants.Late, Verdicts.required_bound}
use Rattle.cl_analyse.proofs.AnswerLists.{nothing_at}
use Rattle.cl_analyse.proofs.judging.required_bound.Goals as goal

pub returns-in-None : goal.returns-in-None
returns-in-None c = sym (ap (required_bound c.args.kind) (nothing_at c.args.chains.now c.args.chain (Late 0) c.in-None.ensures))
