use Rattle.std.proofs.Common.{◌<◌, length, sym, ap, ◌∙◌, subst, arith, below_more}
use Rattle.std.proofs.lemmas.Bool.{true≢false}
use Rattle.cl_resp.specs.{declared.question.Question.Question, Question.IsQuestionInRange, Response.response_to}
use Rattle.cl_bound.specs.{declared.answer.TaskAnswer.TaskAnswer, Answers.{answer_with, is_late}}
use Rattle.cl_tune.proofs.in_time.tasks_in_time.Goals as goal

pub answer_question-requires : goal.answer_question-requires
answer_question-requires g c =
    let known : c.loop-task.task < length c.args.model.now.tasks = omega (arith, c.loop-task-test.true, c.tasks-task-end.ensures.count) in
    subst (λ (q : Question). IsQuestionInRange q) (sym c.in_ok-question.ensures) (c.requires.in_range c.loop-task.task known)

pub loop-task-preserved : goal.loop-task-preserved
loop-task-preserved g c = below_more _ c.loop-task.task c.loop-task.invariant
    (ap (λ (q : Question). is_late (answer_with (response_to q))) (sym c.in_ok-question.ensures)
    ∙ ap (λ (answer : TaskAnswer). is_late answer) (sym c.answer_question.ensures.answer) ∙ sym c.is_late.ensures ∙ c.if-is_late.false)

pub returns-then-is_late : goal.returns-then-is_late
returns-then-is_late g c = λ timely.
    let known : c.loop-task.task < length c.args.model.now.tasks = omega (arith, c.loop-task-test.true, c.tasks-task-end.ensures.count) in
    let here = ap (λ (q : Question). is_late (answer_with (response_to q))) (sym c.in_ok-question.ensures)
    ∙ ap (λ (answer : TaskAnswer). is_late answer) (sym c.answer_question.ensures.answer) ∙ sym c.is_late.ensures ∙ c.if-is_late.true in
    true≢false (sym here ∙ timely c.loop-task.task known)

pub returns : goal.returns
returns g c = λ task lt. c.loop-task.invariant task (omega (arith, lt, c.loop-task-test.false, c.tasks-task-end.ensures.count))
