use Rattle.std.proofs.Common.{◌≡◌, ℕ, ◌<◌, Some, length}
use Rattle.std.specs.List.{HoldsAt}
use Rattle.cl_model.specs.ByNumber.{tasks_of_core}
use Rattle.cl_runs.specs.SystemOf.{system_of}
use Rattle.cl_tune.specs.Inner.Filling.{best_order}
use Rattle.cl_tune.proofs.ordering.order.Given as goal

-- the orders of the cores so far
abbrev pub invariant-loop-core : goal.invariant-loop-core
invariant-loop-core g l =
    (length l.orders.items ≡ l.core)
    × ((core : ℕ) → core < l.core → HoldsAt (λ order. best_order (system_of l.model) (length (tasks_of_core l.model core)) 0 (tasks_of_core l.model core) ≡ Some order.items) l.orders.items core)
