use Rattle.std.proofs.Common.{◌+◌, List, sym, subst}
use Rattle.cl_margin.specs.declared.answer.Margin.{Margin}
use Rattle.cl_margin.proofs.AllMargins.{AreMarginsBelow, margins_more}
use Rattle.cl_margin.proofs.finding.find_all.Goals as goal

pub loop-task-preserved : goal.loop-task-preserved
loop-task-preserved g c =
    let model = c.args.standing.now.model.now in
    record {
      tasks = subst (λ (l : List Margin). AreMarginsBelow model (c.loop-task.task + 1) l) (sym c.in_ok-push.ensures.ok)
          (margins_more model c.loop-task.task c.loop-task.tasks c.in_ok-found-2.found.margin c.loop-task.invariant.tasks c.in_ok-found-2.ensures.margin);
      trial = c.in_ok-found-2.ensures.trial;
    }
