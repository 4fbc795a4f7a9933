use Rattle.std.proofs.Common.{set, sym, ap, ◌∙◌, arith}
use Rattle.std.proofs.lemmas.List.Edits.{map_over_more}
use Rattle.std.proofs.lemmas.Option.{get_or_from_slice_get}
use Rattle.cl_model.specs.TaskNumbers.{number_without}
use Rattle.cl_model.proofs.task_numbers.renumber_tasks.Goals as goal

pub loop-place-preserved : goal.loop-place-preserved
loop-place-preserved c =
    ap (set c.loop-place.tasks c.loop-place.place) c.number_without.ensures
    ∙ map_over_more (number_without c.args.gone) c.args.tasks.now c.loop-place.tasks c.loop-place.place c.item_mut-task.result.now
    (omega (arith, c.loop-place-test.true, c.len-place-end.ensures)) c.loop-place.invariant
    (sym (get_or_from_slice_get c.loop-place.tasks c.loop-place.place c.item_mut-task.result.now c.item_mut-task.result.now c.item_mut-task.ensures.value))
