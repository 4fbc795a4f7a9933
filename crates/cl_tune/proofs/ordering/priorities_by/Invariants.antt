use Rattle.std.proofs.Common.{◌≡◌, ℕ, ◌<◌, length, get_or}
use Rattle.std.specs.List.{HoldsAt}
use Rattle.cl_model.specs.ByNumber.{core_of}
use Rattle.cl_tune.specs.Orders.{priority_in}
use Rattle.cl_tune.proofs.ordering.priorities_by.Given as goal

abbrev pub invariant-loop-task : goal.invariant-loop-task
invariant-loop-task l =
    (length l.priorities ≡ l.task)
    × ((task : ℕ) → task < l.task → HoldsAt (λ order. get_or l.priorities task 0 ≡ priority_in order.items task) l.orders (core_of l.model task))
