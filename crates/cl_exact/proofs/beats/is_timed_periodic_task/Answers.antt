use Rattle.std.proofs.Common.{ap, sym, ◌∙◌}
use Rattle.std.specs.Prelude.{◌&&◌}
use Rattle.cl_model.specs.Kinds.{is_periodic}
use Rattle.cl_exact.proofs.ModelBeats.{task_tested}
use Rattle.cl_exact.proofs.beats.is_timed_periodic_task.Goals as goal

pub returns-then-timed : goal.returns-then-timed
returns-then-timed c =
    ap (λ b. b && c.is_periodic-periodic.result) (sym c.if-timed.true)
    ∙ task_tested c.args.model.now c.args.task c.requires c.task.result.now c.task.ensures.task c.is_timed-timed.result c.is_periodic-periodic.result
    c.is_timed-timed.ensures (c.is_periodic-periodic.ensures ∙ ap is_periodic c.stimulus_of.ensures)

pub returns-else-timed : goal.returns-else-timed
returns-else-timed c =
    c.if-timed.false ∙ ap (λ b. b && c.is_periodic-periodic.result) (sym c.if-timed.false)
    ∙ task_tested c.args.model.now c.args.task c.requires c.task.result.now c.task.ensures.task c.is_timed-timed.result c.is_periodic-periodic.result
    c.is_timed-timed.ensures (c.is_periodic-periodic.ensures ∙ ap is_periodic c.stimulus_of.ensures)
