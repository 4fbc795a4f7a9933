use Rattle.std.proofs.Common.{◌<◌, length, sym, ap, ◌∙◌, arith}
use Rattle.cl_bound.specs.Answers.{answer_at}
use Rattle.cl_tight.proofs.TightTimings.{answer_count}
use Rattle.cl_report.proofs.ReportLines.{task_answer}
use Rattle.cl_verify.specs.Witnesses.{settled_response}
use Rattle.cl_verify.proofs.ByFindings.{response_by_answer}
use Rattle.cl_verify.proofs.witness.witness_of_task.Goals as goal

pub bounds-as_slice-task : goal.bounds-as_slice-task
bounds-as_slice-task c =
    omega (arith, c.requires.task, ap length c.as_slice.ensures, answer_count c.args.model.now c.args.answers.now c.requires.answers)

pub plan_task-requires-clause-response : goal.plan_task-requires-clause-response
plan_task-requires-clause-response c =
    let model = c.args.model.now in
    let as_many : c.args.task < length c.as_slice.result.now = omega (arith, c.requires.task, ap length c.as_slice.ensures, answer_count model c.args.answers.now c.requires.answers) in
    let found = task_answer c.as_slice.result.now c.args.task c.index-as_slice-task.result as_many c.index-as_slice-task.is in
    response_by_answer model c.args.task c.requires.task
    ∙ ap (λ answers. settled_response (answer_at answers c.args.task)) (sym (c.as_slice.ensures ∙ c.requires.answers))
    ∙ ap settled_response (sym found)
    ∙ sym c.response_of.ensures
