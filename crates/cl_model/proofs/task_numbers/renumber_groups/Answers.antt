use Rattle.std.proofs.Common.{ℕ, set, sym, ap, ◌∙◌, arith}
use Rattle.std.proofs.lemmas.List.Edits.{map_over_more}
use Rattle.std.proofs.lemmas.Option.{get_or_from_slice_get}
use Rattle.cl_model.specs.{declared.group.Group.Group, TaskNumbers.group_without}
use Rattle.cl_model.proofs.task_numbers.renumber_groups.Goals as goal

pub loop-place-preserved : goal.loop-place-preserved
loop-place-preserved c =
    let group : Group = c.item_mut-group.result.now in
    ap (λ (n : ℕ). let renumbered : Group = record group { task = n } in set c.loop-place.groups c.loop-place.place renumbered) c.number_without-group.ensures
    ∙ map_over_more (group_without c.args.gone) c.args.groups.now c.loop-place.groups c.loop-place.place c.item_mut-group.result.now
    (omega (arith, c.loop-place-test.true, c.len-place-end.ensures)) c.loop-place.invariant
    (sym (get_or_from_slice_get c.loop-place.groups c.loop-place.place c.item_mut-group.result.now c.item_mut-group.result.now c.item_mut-group.ensures.value))
