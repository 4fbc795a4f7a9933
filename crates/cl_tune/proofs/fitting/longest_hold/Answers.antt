use Rattle.std.proofs.Common.{◌≡◌, sym, ap, ◌∙◌, subst, ◌≤◌}
use Rattle.cl_model.specs.{declared.{limits.TheConstants.MOST_TICKS, task.TaskDef.TaskDef}, Holds.task_hold}
use Rattle.cl_tune.proofs.Timings.{hold_at, hold_is, hold_few}
use Rattle.cl_tune.proofs.fitting.longest_hold.Goals as goal

pub returns-clause-hold : goal.returns-clause-hold
returns-clause-hold c =
    c.longest_hold.ensures ∙ ap (λ (t : TaskDef). task_hold t) c.task.ensures.task ∙ sym (hold_is c.args.model.now c.args.task c.requires)

pub returns-clause-small : goal.returns-clause-small
returns-clause-small c =
    let is : c.longest_hold.result ≡ hold_at c.args.model.now c.args.task =
    c.longest_hold.ensures ∙ ap (λ (t : TaskDef). task_hold t) c.task.ensures.task in
    subst (λ n. n ≤ MOST_TICKS) (sym is) (hold_few c.args.model.now c.args.task c.requires c.task.ensures.valid)
