use Rattle.std.proofs.Common.{◌≡◌, ℕ, ◌-◌, ◌<◌, ◌≤◌, length}
use Rattle.std.specs.Prelude.{All}
use Rattle.cl_model.specs.{declared.{limits.TheConstants.{MOST_TICKS, MOST_TASKS_OF_CORE}, model.SystemModel.SystemModel}, ByNumber.tasks_of_core}
use Rattle.cl_runs.specs.SystemOf.{system_of}
use Rattle.cl_tune.specs.Inner.Filling.{AreDistinct, best_order}
use Rattle.cl_tune.proofs.FillingSteps.{behind}
use Rattle.std.proofs.Common.{List}
use Rattle.cl_tune.proofs.filling.best_order.Given as goal

-- the order of the core is what is placed and then the order of the unplaced
pub record IsSoFar (model : SystemModel) (core : ℕ) (placed : List ℕ) (left block : ℕ) (unplaced : List ℕ) : Type 0 where
  pub so_far : best_order (system_of model) (length (tasks_of_core model core)) 0 (tasks_of_core model core)
      ≡ behind placed (best_order (system_of model) left block unplaced)
  pub small : block ≤ MOST_TICKS
  pub known : All (λ other. other < length model.tasks) unplaced
  pub few : length unplaced ≤ MOST_TASKS_OF_CORE
  pub once : AreDistinct unplaced

abbrev pub invariant-loop : goal.invariant-loop
invariant-loop g l = IsSoFar l.model l.core l.order.items (l.end - l.counter) l.block l.unplaced.items
