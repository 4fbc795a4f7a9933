use Rattle.std.proofs.Common.{length, sym, ap, ◌∙◌, arith}
use Rattle.std.proofs.lemmas.Bool.{true≢false}
use Rattle.cl_tight.specs.declared.findings.TightFindings.{TightFindings}
use Rattle.cl_margin.specs.Margins.{is_met_task}
use Rattle.cl_margin.proofs.{MetByBounds.tasks_found, StaysMet.task_untouched}
use Rattle.cl_margin.proofs.searching.Search.ask_task.Goals as goal

pub has_task-requires : goal.has_task-requires
has_task-requires g c =
    omega (arith, c.requires.task, ap (λ (f : TightFindings). length f.tasks) c.requires.standing.found, tasks_found c.args.standing.now.model.now)

pub returns-then-not-has_task-clause-kept : goal.returns-then-not-has_task-clause-kept
returns-then-not-has_task-clause-kept g c = λ met. absurd (true≢false (sym met
    ∙ ap (λ (f : TightFindings). is_met_task f c.args.task) (sym c.requires.standing.found) ∙ sym c.has_task.ensures ∙ c.if-not-has_task.true))

pub returns-then-not-touches-clause-kept : goal.returns-then-not-touches-clause-kept
returns-then-not-touches-clause-kept g c = task_untouched c.args.standing.now.model.now c.requires.standing.valid c.args.whose c.args.self.percent
    c.requires.search.in_range c.args.task c.requires.task (sym c.touches.ensures ∙ c.if-not-touches.true)

pub ask-requires-clause-met : goal.ask-requires-clause-met
ask-requires-clause-met g c =
    ap (λ (f : TightFindings). is_met_task f c.args.task) (sym c.requires.standing.found) ∙ sym c.has_task.ensures ∙ c.if-not-has_task.false
