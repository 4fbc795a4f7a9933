use Rattle.std.proofs.Common.{◌≡◌, replicate}
use Rattle.cl_bound.specs.declared.answer.TaskAnswer.TheVariants.{Late}
use Rattle.cl_analyse.proofs.task_answers.all_late.Given as goal

abbrev pub invariant-loop : goal.invariant-loop
invariant-loop l = l.answers ≡ replicate l.counter Late
