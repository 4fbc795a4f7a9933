use Rattle.std.proofs.Common.{◌<◌, List, length, get_or, ap, ◌∙◌, arith}
use Rattle.cl_bound.specs.declared.answer.TaskAnswer.{TaskAnswer}
use Rattle.cl_incr.proofs.{KeptAnswers.answer_count, StandingTasks.standing_answer}
use Rattle.cl_incr.proofs.tasks.keep_or_answer.Goals as goal

pub bounds-as_slice-was : goal.bounds-as_slice-was
bounds-as_slice-was g c =
    omega (arith, ap length c.as_slice.ensures, answer_count c.args.old.now c.args.answers.now c.requires.answers, c.tasks.ensures.count, c.if-was-tasks.true)

pub returns-then-was-tasks-clause-answer : goal.returns-then-was-tasks-clause-answer
returns-then-was-tasks-clause-answer g c =
    let found = c.index-as_slice-was.result in
    let known : c.args.was < length c.args.old.now.tasks = omega (arith, c.tasks.ensures.count, c.if-was-tasks.true) in
    standing_answer c.args.old.now c.args.new.now c.args.answers.now c.args.was c.args.task found c.requires.answers known c.requires.task
    (c.index-as_slice-was.is ∙ ap (λ (l : List TaskAnswer). get_or l c.args.was found) c.as_slice.ensures) (c.requires.was known)
