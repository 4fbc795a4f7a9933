use Rattle.std.proofs.Common.{sym, ◌∙◌}
use Rattle.cl_edit.specs.Inner.Paces.{with_retiming}
use Rattle.cl_edit.proofs.{RefusedPairs.{on_more, on_past}, pace.Retiming.first_on.Goals.{then-is_on, else-is_on}}
use Rattle.cl_edit.proofs.pace.Retiming.first_on.Goals as goal

pub loop-task-preserved : goal.loop-task-preserved
loop-task-preserved c =
    let fault = c.args.fault in
    let model = c.args.model.now in
    let new = with_retiming model c.args.self in
    elim c.if-is_on.branch [
      | then-is_on w ↦ rw w.first-is (on_more fault model new c.args.stimulus c.loop-task.task c.loop-task.first w.first_beside-first.result c.loop-task.invariant
          w.first_beside-first.ensures.first w.first_beside-first.ensures.kept w.first_beside-first.ensures.seen)
      | else-is_on w ↦ rw w.first-is (on_past fault model new c.args.stimulus c.loop-task.task c.loop-task.first c.loop-task.invariant (sym c.is_on.ensures ∙ w.if-is_on.false))
    ]
