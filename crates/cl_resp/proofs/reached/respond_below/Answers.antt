use Rattle.std.proofs.Common.{subst, ap, arith}
use Rattle.cl_runs.proofs.ModelSystem.{count_is}
use Rattle.cl_resp.specs.{declared.question.Question.Question, Response.NoneServesBelow}
use Rattle.cl_resp.proofs.reached.respond_below.Goals as goal

pub returns-clause-last : goal.returns-clause-last
returns-clause-last g c = record {
  is_task = omega (arith, c.requires.task, count_is c.args.model.now);
  block = ap (λ (q : Question). q.block) c.requires.question;
  none = subst (λ (q : Question). NoneServesBelow q c.width_reached.result) c.requires.question c.width_reached.ensures;
}
