use Rattle.std.proofs.Common.{◌≡◌, length, map, ap, ◌∙◌, refl, arith}
use Rattle.std.specs.List.{range_with_len}
use Rattle.std.proofs.lemmas.Result.{IfOk-weaker}
use Rattle.cl_resp.proofs.RangesKeyed.{task_in, one_more_keyed, keyed_permuted}
use Rattle.cl_resp.proofs.reached.from_the_top.Goals as goal

pub loop-task-preserved : goal.loop-task-preserved
loop-task-preserved c = one_more_keyed c.loop-task.task c.loop-task.keyed.items c.push.new.self.items _ c.loop-task.invariant refl c.in_ok-push.ensures.items

pub returns : goal.returns
returns c =
    let all : map task_in c.loop-task.keyed.items ≡ range_with_len 0 (length c.args.model.now.tasks) =
    c.loop-task.invariant ∙ ap (range_with_len 0) (omega (arith, c.tasks-task-end.ensures.count)) in
    IfOk-weaker c.tasks_of.result _ _
    (λ order is. keyed_permuted (length c.args.model.now.tasks) c.loop-task.keyed.items c.sort_unstable.new.self.items order.items all c.sort_unstable.ensures.permutation
    (is ∙ ap (map task_in) c.as_slice.ensures.value))
    c.tasks_of.ensures
