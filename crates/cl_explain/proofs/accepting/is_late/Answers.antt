use Rattle.std.proofs.Common.{ap, ◌∙◌}
use Rattle.cl_bound.specs.declared.answer.TaskAnswer.{TaskAnswer}
use Rattle.cl_bound.specs.Answers as answers
use Rattle.cl_explain.proofs.accepting.is_late.Goals as goal

pub returns-clause-late : goal.returns-clause-late
returns-clause-late g c =
    c.is_late.ensures ∙ ap (λ (answer : TaskAnswer). answers.is_late answer) c.in_ok-answer_by_phase.ensures.answer
