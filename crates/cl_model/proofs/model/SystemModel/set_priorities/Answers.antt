use Rattle.std.proofs.Common.{◌+◌, length, get_or, drop, refl, sym, ap, ◌∙◌, arith}
use Rattle.std.proofs.lemmas.List.{length-set, drop_more, drop_all}
use Rattle.cl_model.specs.{declared.{changes.TaskPriority.TaskPriority, model.SystemModel.SystemModel}, ByNumber.task_at, Changes.with_priorities}
use Rattle.cl_model.proofs.model.SystemModel.set_priorities.Goals as goal

pub loop-it-init : goal.loop-it-init
loop-it-init c = record { others = refl; tasks = refl }

pub set_priority-requires : goal.set_priority-requires
set_priority-requires c =
    let there = c.requires c.loop-it.it-index (record { task = 0; priority = 0 }) c.loop-it-test.true in
    omega (arith, there, c.loop-it.invariant.tasks)

pub loop-it-preserved : goal.loop-it-preserved
loop-it-preserved c =
    let priorities = c.args.priorities.now in
    let i = c.loop-it.it-index in
    let before = c.loop-it.self in
    let it : TaskPriority = get_or c.args.priorities.now c.loop-it.it-index (record { task = 0; priority = 0 }) in
    record {
      others =
          ap (λ (m : SystemModel). with_priorities m (drop (i + 1) priorities)) c.set_priority.ensures
          ∙ ap (with_priorities before) (sym (drop_more priorities i (record { task = 0; priority = 0 }) c.loop-it-test.true)) ∙ c.loop-it.invariant.others;
      tasks =
          ap (λ (m : SystemModel). length m.tasks) c.set_priority.ensures
          ∙ length-set before.tasks it.task (record (task_at before it.task) { priority = it.priority }) ∙ c.loop-it.invariant.tasks;
    }

pub returns : goal.returns
returns c = sym (ap (with_priorities c.loop-it.self) (drop_all c.loop-it.it-index c.args.priorities.now (omega arith))) ∙ c.loop-it.invariant.others
