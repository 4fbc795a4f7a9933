use Rattle.std.proofs.Common.{◌≡◌, ◌==◌, ◌+◌, length, nat_lt, ap, arith}
use Rattle.std.proofs.lemmas.Bool.{le-ltb}
use Rattle.cl_margin.proofs.Forgotten.{forgets_none, forgets_alike, forgets_more, one_below}
use Rattle.cl_margin.proofs.trial.Trial.forget_all.Goals as goal

pub loop-task-init : goal.loop-task-init
loop-task-init c = forgets_none (λ task. nat_lt task 0) (λ task. le-ltb task 0 (omega arith)) c.args.self.now

pub forget-requires : goal.forget-requires
forget-requires c = omega (arith, c.loop-task-test.true, c.tasks-task-end.ensures.count, c.loop-task.invariant.as_many, c.requires)

pub loop-task-preserved : goal.loop-task-preserved
loop-task-preserved c =
    let task = c.loop-task.task in
    forgets_more (λ other. nat_lt other task) (λ other. other == task) (λ other. nat_lt other (task + 1)) (one_below task)
    c.args.self.now c.loop-task.self c.forget.new.self c.loop-task.invariant c.forget.ensures

pub returns : goal.returns
returns c =
    let task = c.loop-task.task in
    let count = length c.args.self.now.model.tasks in
    let all : task ≡ count = omega (arith, c.loop-task-test.false, c.loop-task.auto.task-end, c.tasks-task-end.ensures.count) in
    forgets_alike (λ other. nat_lt other task) (λ other. nat_lt other count) (λ other. ap (nat_lt other) all) c.args.self.now c.loop-task.self c.loop-task.invariant
