use Rattle.std.proofs.Common.{length, sym, ap, ◌∙◌, arith}
use Rattle.std.proofs.lemmas.Result.{IfOk-weaker}
use Rattle.cl_tight.specs.declared.findings.TightFindings.{TightFindings}
use Rattle.cl_margin.specs.Margins.{is_met_task}
use Rattle.cl_margin.proofs.{MetByBounds.tasks_found, NewlyBroken.{late_where, never_broken, task_kept, task_known}}
use Rattle.cl_margin.proofs.searching.is_newly_late.Goals as goal

pub has_task-requires : goal.has_task-requires
has_task-requires g c =
    omega (arith, c.requires.task, ap (λ (f : TightFindings). length f.tasks) c.requires.standing.found, tasks_found c.args.standing.now.model.now)

pub returns-then-not-has_task-clause-late : goal.returns-then-not-has_task-clause-late
returns-then-not-has_task-clause-late g c =
    let found = ap (λ (f : TightFindings). is_met_task f c.args.task) c.requires.standing.found in
    never_broken _ _ (sym found ∙ sym c.has_task.ensures ∙ c.if-not-has_task.true)

pub returns-then-not-touches-clause-late : goal.returns-then-not-touches-clause-late
returns-then-not-touches-clause-late g c =
    task_kept c.args.standing.now.model.now c.requires.standing.valid c.args.whose c.requires.percent.0 c.args.trial.now
    c.requires.percent.1 c.requires.in_range c.args.task c.requires.task (sym c.touches.ensures ∙ c.if-not-touches.true)

pub is_late-requires-clause-task : goal.is_late-requires-clause-task
is_late-requires-clause-task g c =
    task_known c.args.standing.now.model.now c.requires.standing.valid c.args.whose c.requires.percent.0 c.args.trial.now
    c.requires.percent.1 c.requires.in_range c.args.task c.requires.task

pub returns-clause-late : goal.returns-clause-late
returns-clause-late g c =
    let found = ap (λ (f : TightFindings). is_met_task f c.args.task) c.requires.standing.found in
    let met = sym found ∙ sym c.has_task.ensures ∙ c.if-not-has_task.false in
    IfOk-weaker c.is_late.result _ _ (λ late is. late_where c.args.standing.now.model.now c.args.trial.now.model c.args.task late is met)
    c.is_late.ensures.late
