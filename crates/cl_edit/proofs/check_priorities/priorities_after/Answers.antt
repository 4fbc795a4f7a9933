use Rattle.std.proofs.Common.{ℕ, List, length, get_or, set, ap, ◌∙◌, arith}
use Rattle.cl_model.specs.declared.changes.TaskPriority.{TaskPriority}
use Rattle.cl_edit.proofs.SetPriorities.{ranks_more, ranks_long, ranks_all}
use Rattle.cl_edit.proofs.check_priorities.priorities_after.Goals as goal

-- the task of the next one is there
pub index_mut-requires : goal.index_mut-requires
index_mut-requires c =
    let none : TaskPriority = record { task = 0; priority = 0 } in
    let n : ℕ = c.loop-it.it-index in
    omega (arith, (c.requires n none c.loop-it-test.true).task, ap length c.loop-it.invariant, ranks_long c.args.model.now c.args.set.now n)

pub loop-it-preserved : goal.loop-it-preserved
loop-it-preserved c =
    let none : TaskPriority = record { task = 0; priority = 0 } in
    let n : ℕ = c.loop-it.it-index in
    let it : TaskPriority = get_or c.args.set.now n none in
    ap (λ (l : List ℕ). set l it.task it.priority) c.loop-it.invariant ∙ ranks_more c.args.model.now c.args.set.now n none c.loop-it-test.true

pub returns : goal.returns
returns c = c.loop-it.invariant ∙ ranks_all c.args.model.now c.args.set.now c.loop-it.it-index (omega arith)
