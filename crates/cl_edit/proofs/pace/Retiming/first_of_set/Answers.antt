use Rattle.std.proofs.Common.{ℕ, ◌<◌, List, length, get_or, arith}
use Rattle.std.proofs.lemmas.List.{get_or_default}
use Rattle.cl_model.specs.declared.changes.TaskPriority.{TaskPriority}
use Rattle.cl_edit.specs.Inner.Paces.{with_retiming}
use Rattle.cl_edit.proofs.RefusedPairs.{set_more}
use Rattle.cl_edit.proofs.pace.Retiming.first_of_set.Goals as goal

pub loop-it-preserved : goal.loop-it-preserved
loop-it-preserved c =
    let set : List TaskPriority = c.args.set.now in
    let n : ℕ = c.loop-it.it-index in
    let none : TaskPriority = record { task = 0; priority = 0 } in
    let it : TaskPriority = get_or set n none in
    let lt : n < length set = omega arith in
    set_more c.args.fault (with_retiming c.args.model.now c.args.self) c.loop-it.first c.first_beside-first.result set n it c.loop-it.invariant (get_or_default set n none it lt)
    c.first_beside-first.ensures.first c.first_beside-first.ensures.kept c.first_beside-first.ensures.seen

pub returns-clause-seen : goal.returns-clause-seen
returns-clause-seen c = λ m d lt. c.loop-it.invariant.seen m d (omega (arith, lt)) lt

pub first_beside-first-requires-clause-task : goal.first_beside-first-requires-clause-task
first_beside-first-requires-clause-task c = (c.requires.set c.loop-it.it-index (record { task = 0; priority = 0 }) (omega arith)).task
