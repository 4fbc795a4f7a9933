use Rattle.std.proofs.Common.{ℕ, length, sym, ap, ◌∙◌, subst, arith}
use Rattle.cl_bound.specs.Answers.{answer_at, is_late}
use Rattle.cl_tight.specs.TightFindings.{tight_findings_of}
use Rattle.cl_tight.proofs.TightLengths.{tight_tasks_found}
use Rattle.cl_verify.specs.declared.decision.TaskDecision.TheVariants as task
use Rattle.cl_verify.specs.Decisions.{IsDecisionOnTask}
use Rattle.cl_verify.proofs.ByFindings.{answer_found, answer_by_phases, settled_decided}
use Rattle.cl_verify.proofs.deciding.decide_task.Goals as goal

pub bounds-as_slice-task : goal.bounds-as_slice-task
bounds-as_slice-task c =
    omega (arith, c.requires.task, ap length c.as_slice.ensures, tight_tasks_found c.args.model.now c.args.findings.now c.requires.findings)

pub see_task-requires-clause-late : goal.see_task-requires-clause-late
see_task-requires-clause-late c =
    let model = c.args.model.now in
    let found = answer_found model c.args.findings.now c.as_slice.result.now c.args.task c.index-as_slice-task.result
    c.requires.findings c.as_slice.ensures c.requires.task c.index-as_slice-task.is in
    ap is_late (sym (answer_by_phases model c.args.task) ∙ sym found ∙ c.in-Late.is)

pub returns-in-Settled-clause-decision : goal.returns-in-Settled-clause-decision
returns-in-Settled-clause-decision c =
    let model = c.args.model.now in
    let found = answer_found model c.args.findings.now c.as_slice.result.now c.args.task c.index-as_slice-task.result
    c.requires.findings c.as_slice.ensures c.requires.task c.index-as_slice-task.is in
    subst (λ (n : ℕ). IsDecisionOnTask model c.args.task (answer_at (tight_findings_of model).tasks c.args.task) (task.Met n)) (sym c.response.ensures)
    (settled_decided model c.args.task (answer_at (tight_findings_of model).tasks c.args.task) c.in-Settled.settled (sym found ∙ c.in-Settled.is))
