use Rattle.std.proofs.Common.{length, map, set, sym, ap, ◌∙◌, arith}
use Rattle.std.proofs.lemmas.List.Edits.{map_over_more}
use Rattle.cl_model.specs.TaskNumbers.{group_without}
use Rattle.cl_model.proofs.task_numbers.renumber_chains.Goals as goal

pub loop-groups-preserved : goal.loop-groups-preserved
loop-groups-preserved c =
    ap (set c.loop-groups.groups-items c.loop-groups.groups-index) c.renumber_groups.ensures
    ∙ ap (λ groups. set c.loop-groups.groups-items c.loop-groups.groups-index (map (group_without c.args.gone) groups)) (sym c.groups-item.is)
    ∙ map_over_more (map (group_without c.args.gone)) c.args.chains.now.items c.loop-groups.groups-items c.loop-groups.groups-index c.groups-item.result
    (omega (arith, c.loop-groups-test.true, ap length c.deref_mut-groups-items.ensures.value)) c.loop-groups.invariant c.groups-item.is
