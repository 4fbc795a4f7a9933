use Rattle.std.proofs.Common.{◌∙◌, arith}
use Rattle.cl_text.proofs.MoreLines.{line_more}
use Rattle.cl_runs.specs.SystemOf.{system_of}
use Rattle.cl_bound.specs.Answers.{answers_of}
use Rattle.cl_explain.specs.Explanation.{task_lines_of}
use Rattle.cl_explain.proofs.AnswersByNumber.{one_more, all_answers}
use Rattle.cl_explain.proofs.explaining.put_tasks.Goals as goal

pub loop-task-preserved : goal.loop-task-preserved
loop-task-preserved c = (
  one_more (answers_of (system_of c.args.model.now)) c.loop-task.answers c.push.new.self c.loop-task.task _ c.loop-task.invariant.0 c.in_ok-put_task_parts.ensures.answer c.in_ok-push.ensures.ok,
  line_more (task_lines_of c.args.model.now) c.args.text.now c.loop-task.text c.put_task_parts.new.text c.loop-task.task c.loop-task.invariant.1 c.in_ok-put_task_parts.ensures.text,
)

pub returns-clause-answers : goal.returns-clause-answers
returns-clause-answers c =
    c.loop-task.invariant.0 ∙ all_answers c.args.model.now c.loop-task.task (omega (arith, c.loop-task-test.false, c.loop-task.auto.task-end, c.tasks-task-end.ensures.count))
