use Rattle.std.proofs.Common.{◌∙◌, ap, arith}
use Rattle.cl_runs.specs.SystemOf.{system_of}
use Rattle.cl_runs.proofs.ModelSystem.{count_is}
use Rattle.cl_tight.specs.Inner.Windows.{window_in}
use Rattle.cl_tight.proofs.{PlainWindows.{plain_window, plain_count}, TightLists.{one_more_answer, all_answers}}
use Rattle.cl_tight.proofs.tightening.answer_tightly.Goals as goal

pub answer_within-requires-clause-widest : goal.answer_within-requires-clause-widest
answer_within-requires-clause-widest g c =
    c.window_in-widest.ensures ∙ ap window_in c.index-as_slice-task.is
    ∙ plain_window (system_of c.args.model.now) c.as_slice.result.now (c.as_slice.ensures ∙ c.in_ok-plain.ensures.answers) c.loop-task.task c.index-as_slice-task.result
    (omega (arith, c.loop-task-test.true, c.tasks-task-end.ensures.count, count_is c.args.model.now))

pub bounds-as_slice-task : goal.bounds-as_slice-task
bounds-as_slice-task g c = omega (
  arith,
  c.loop-task-test.true,
  c.tasks-task-end.ensures.count,
  count_is c.args.model.now,
  plain_count (system_of c.args.model.now) c.as_slice.result.now (c.as_slice.ensures ∙ c.in_ok-plain.ensures.answers),
)

pub loop-task-preserved : goal.loop-task-preserved
loop-task-preserved g c =
    one_more_answer c.args.model.now c.loop-task.task c.loop-task.answers c.push.new.self c.in_ok-answer_within.field-0
    (omega (arith, c.loop-task-test.true, c.tasks-task-end.ensures.count)) c.loop-task.invariant c.in_ok-answer_within.ensures c.in_ok-push.ensures.ok

pub returns-clause-answers : goal.returns-clause-answers
returns-clause-answers g c =
    c.loop-task.invariant
    ∙ all_answers c.args.model.now c.loop-task.task (omega (arith, c.loop-task-test.false, c.loop-task.auto.task-end, c.tasks-task-end.ensures.count))
