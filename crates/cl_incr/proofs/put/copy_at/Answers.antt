use Rattle.std.proofs.Common.{sym}
use Rattle.cl_analyse.specs.declared.findings.ExactAnswer.TheVariants.{ChainLate}
use Rattle.cl_analyse.proofs.AnswerLists.{nothing_at}
use Rattle.cl_incr.proofs.put.copy_at.Goals as goal

pub returns-in-None : goal.returns-in-None
returns-in-None c = sym (nothing_at c.args.exacts.now c.args.chain ChainLate c.in-None.ensures)
