use Rattle.std.proofs.Common.{◌<◌, length, ap, arith}
use Rattle.std.proofs.lemmas.List.{length-map}
use Rattle.std.proofs.lemmas.List.FromFn.{length-map-range_with_len}
use Rattle.cl_model.specs.ByNumber.{core_number, tasks_of_core_below}
use Rattle.cl_model.proofs.{NamesKnown.core_within, CoreTasks.{none_yet, lists_more, number_kept}}
use Rattle.cl_model.proofs.look_ups.tasks_of_cores.Goals as goal

pub loop-task-init : goal.loop-task-init
loop-task-init c = none_yet c.args.model.now (length c.args.model.now.cores) c.in_ok-lists.lists.items (rw c.len.ensures at c.in_ok-lists.ensures)

pub put-requires : goal.put-requires
put-requires c =
    let known : c.loop-task.task < length c.args.model.now.tasks = omega (arith, c.loop-task-test.true, ap length c.requires.numbers, length-map c.args.model.now.tasks (core_number c.args.model.now)) in
    omega (
      arith,
      number_kept c.args.model.now c.args.core_numbers.now c.loop-task.task c.requires.numbers known,
      core_within c.args.model.now c.requires.valid c.loop-task.task known,
      ap length c.loop-task.invariant,
      length-map-range_with_len (tasks_of_core_below c.args.model.now c.loop-task.task) 0 (length c.args.model.now.cores),
    )

pub loop-task-preserved : goal.loop-task-preserved
loop-task-preserved c =
    let known : c.loop-task.task < length c.args.model.now.tasks = omega (arith, c.loop-task-test.true, ap length c.requires.numbers, length-map c.args.model.now.tasks (core_number c.args.model.now)) in
    let number = number_kept c.args.model.now c.args.core_numbers.now c.loop-task.task c.requires.numbers known in
    lists_more c.args.model.now (length c.args.model.now.cores) c.loop-task.task _ c.loop-task.lists.items c.put.new.lists.items
    (omega (arith, number, core_within c.args.model.now c.requires.valid c.loop-task.task known)) number c.loop-task.invariant c.in_ok-put.ensures
