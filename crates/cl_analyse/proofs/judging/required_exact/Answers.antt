use Rattle.std.proofs.Common.{sym, ap}
use Rattle.cl_analyse.specs.{declared.findings.ExactAnswer.TheVariants.ChainLate, Verdicts.required_exact}
use Rattle.cl_analyse.proofs.AnswerLists.{nothing_at}
use Rattle.cl_analyse.proofs.judging.required_exact.Goals as goal

pub returns-in-None : goal.returns-in-None
returns-in-None c = sym (ap (required_exact c.args.kind) (nothing_at c.args.exacts.now c.args.chain ChainLate c.in-None.ensures))
