use Rattle.std.proofs.Common.{length, map, set, sym, ap, ◌∙◌, arith}
use Rattle.std.proofs.lemmas.List.Edits.{map_over_more}
use Rattle.cl_model.specs.TaskNumbers.{number_without}
use Rattle.cl_model.proofs.task_numbers.renumber_cores.Goals as goal

pub loop-tasks-preserved : goal.loop-tasks-preserved
loop-tasks-preserved c =
    ap (set c.loop-tasks.tasks-items c.loop-tasks.tasks-index) c.renumber_tasks.ensures
    ∙ ap (λ tasks. set c.loop-tasks.tasks-items c.loop-tasks.tasks-index (map (number_without c.args.gone) tasks)) (sym c.tasks-item.is)
    ∙ map_over_more (map (number_without c.args.gone)) c.args.cores.now.items c.loop-tasks.tasks-items c.loop-tasks.tasks-index c.tasks-item.result
    (omega (arith, c.loop-tasks-test.true, ap length c.deref_mut-tasks-items.ensures.value)) c.loop-tasks.invariant c.tasks-item.is
