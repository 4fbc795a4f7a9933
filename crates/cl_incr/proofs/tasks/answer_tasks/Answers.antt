use Rattle.std.proofs.Common.{◌<◌, length, refl, ◌∙◌, arith}
use Rattle.std.proofs.lemmas.List.{take_all}
use Rattle.cl_runs.specs.SystemOf.{system_of}
use Rattle.cl_bound.specs.Answers.{answers_of}
use Rattle.cl_incr.specs.Changed.{IsChangedTask}
use Rattle.cl_incr.proofs.{AskedSteps.{asks_next, asks_more_of}, KeptAnswers.answer_count, StandingTasks.more_answers}
use Rattle.cl_incr.proofs.tasks.answer_tasks.Goals as goal

pub returns-in_err-keep_or_answer-clause-steps : goal.returns-in_err-keep_or_answer-clause-steps
returns-in_err-keep_or_answer-clause-steps g c =
    asks_more_of (IsChangedTask c.args.old.now c.args.new.now) 1 c.loop-task.task (length c.args.new.now.tasks) c.args.steps.now c.loop-task.steps
    c.keep_or_answer.new.steps c.loop-task.invariant.asked c.keep_or_answer.ensures.steps (omega (arith, c.loop-task-test.true, c.tasks-task-end.ensures.count))

pub returns-in_err-push-clause-steps : goal.returns-in_err-push-clause-steps
returns-in_err-push-clause-steps g c =
    asks_more_of (IsChangedTask c.args.old.now c.args.new.now) 1 c.loop-task.task (length c.args.new.now.tasks) c.args.steps.now c.loop-task.steps
    c.keep_or_answer.new.steps c.loop-task.invariant.asked c.keep_or_answer.ensures.steps (omega (arith, c.loop-task-test.true, c.tasks-task-end.ensures.count))

pub loop-task-preserved : goal.loop-task-preserved
loop-task-preserved g c =
    let new = c.args.new.now in
    let within : c.loop-task.task < length c.args.new.now.tasks = omega (arith, c.loop-task-test.true, c.tasks-task-end.ensures.count) in
    record {
      found = more_answers new c.loop-task.task c.loop-task.found c.push.new.self c.in_ok-keep_or_answer.field-0 within c.loop-task.invariant.found
          c.in_ok-keep_or_answer.ensures.answer c.in_ok-push.ensures.ok;
      asked = asks_next (IsChangedTask c.args.old.now new) 1 c.loop-task.task c.args.steps.now c.loop-task.steps c.keep_or_answer.new.steps
          c.loop-task.invariant.asked c.keep_or_answer.ensures.steps;
    }

pub returns-clause-answers : goal.returns-clause-answers
returns-clause-answers g c =
    let all = answers_of (system_of c.args.new.now) in
    c.loop-task.invariant.found
    ∙ take_all c.loop-task.task all (omega (arith, c.loop-task-test.false, c.tasks-task-end.ensures.count, answer_count c.args.new.now all refl))
