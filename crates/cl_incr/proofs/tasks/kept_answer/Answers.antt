use Rattle.std.proofs.Common.{List, length, get_or, sym, ap, ◌∙◌, arith}
use Rattle.cl_model.specs.{declared.task.TaskDef.TaskDef, ByNumber.task_named}
use Rattle.cl_bound.specs.declared.answer.TaskAnswer.{TaskAnswer}
use Rattle.cl_incr.proofs.KeptAnswers.{answer_count, kept_answer, new_task, other_question}
use Rattle.cl_incr.proofs.tasks.kept_answer.Goals as goal

pub bounds-as_slice-before : goal.bounds-as_slice-before
bounds-as_slice-before c =
    omega (arith, c.in-Some.ensures.within, ap length c.as_slice.ensures, answer_count c.args.old.now c.args.answers.now c.requires.answers)

pub returns-then-is_same_question : goal.returns-then-is_same_question
returns-then-is_same_question c =
    kept_answer c.args.old.now c.args.new.now c.args.task c.args.answers.now c.in-Some.before c.index-as_slice-before.result c.requires.answers c.in-Some.ensures.within
    (c.index-as_slice-before.is ∙ ap (λ (list : List TaskAnswer). get_or list c.in-Some.before c.index-as_slice-before.result) c.as_slice.ensures)
    (sym c.in_ok-question_before.ensures.question
    ∙ (c.is_same_question.ensures c.args.old.now c.args.new.now c.in-Some.before c.args.task c.in_ok-question_before.ensures.question c.requires.question).0 c.if-is_same_question.true
    ∙ c.requires.question)

pub returns-in_default : goal.returns-in_default
returns-in_default c =
    new_task c.args.old.now c.args.new.now c.args.task c.requires.task
    (ap (λ (t : TaskDef). task_named c.args.old.now t.name) (sym c.task.ensures.task) ∙ sym c.task_named.ensures.number ∙ c.in_default.is)

pub returns : goal.returns
returns c =
    other_question c.args.old.now c.args.new.now c.args.task c.in-Some.before c.requires.task
    (ap (λ (t : TaskDef). task_named c.args.old.now t.name) (sym c.task.ensures.task) ∙ sym c.task_named.ensures.number ∙ c.in-Some.is)
    (λ same.
    let is = (c.is_same_question.ensures c.args.old.now c.args.new.now c.in-Some.before c.args.task c.in_ok-question_before.ensures.question c.requires.question).1
    (c.in_ok-question_before.ensures.question ∙ same ∙ sym c.requires.question) in
    let not = c.if-is_same_question.false in absurd cc)
