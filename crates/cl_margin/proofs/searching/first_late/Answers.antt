use Rattle.std.proofs.Common.{sym, subst, arith}
use Rattle.cl_model.specs.{declared.model.SystemModel.SystemModel, Ranges.IsInRange}
use Rattle.cl_margin.specs.Grown.{grown}
use Rattle.cl_margin.proofs.AskedItems.{trial_itself, trial_kept}
use Rattle.cl_margin.proofs.searching.first_late.Goals as goal

pub loop-task-init : goal.loop-task-init
loop-task-init g c = record { is = trial_itself _ c.args.trial.now c.requires.percent.1; none = λ task lt. absurd (omega (arith, lt)) }

pub is_newly_late-requires-clause-percent : goal.is_newly_late-requires-clause-percent
is_newly_late-requires-clause-percent g c =
    let first = grown c.args.standing.now.model.now c.args.whose c.requires.percent.0 in
    (c.requires.percent.0, trial_kept first c.args.trial.now c.loop-task.trial c.requires.percent.1 c.loop-task.invariant.is)

pub is_newly_late-requires-clause-in_range : goal.is_newly_late-requires-clause-in_range
is_newly_late-requires-clause-in_range g c = subst (λ (m : SystemModel). IsInRange m) (sym c.loop-task.invariant.is.is) c.requires.in_range
