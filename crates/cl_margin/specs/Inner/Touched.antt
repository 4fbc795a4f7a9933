-- What may change as greatest execution times grow.
use Rattle.std.specs.Prelude.{ℕ, ◌<◌, ◌≤◌, ◌==◌, ◌&&◌, ◌||◌, Bool, true, nat_le, length}
use Rattle.std.specs.List.{list_all, list_any}
use Rattle.cl_model.specs.{declared.{group.Group.Group, limits.TheConstants.MOST_TICKS, model.SystemModel.SystemModel, task.{RunnableDef.RunnableDef, TaskDef.TaskDef}}, ByNumber.{task_at, core_of}, Groups.groups_at, Ranges.IsInRange}
use Rattle.cl_scale.specs.declared.percent.TheConstants.{MOST_PERCENT}
use Rattle.cl_margin.specs.{declared.whose.Whose.{Whose, TheVariants.{EveryTask, OneTask}}, Grown.{grown, grown_greatest}}

-- a runnable of a task runs whole
abbrev pub has_whole : TaskDef → Bool
has_whole task = list_any (λ (runnable : RunnableDef). runnable.whole) task.runnables

-- whose times grow is some tasks of the model
abbrev pub IsOfModel : SystemModel → Whose → Type 0
IsOfModel model EveryTask = Unit {0}
IsOfModel model (OneTask one) = one < length model.tasks

-- the greatest times of a task stay in range at a percentage
abbrev pub are_times_within : (percent : ℕ) → TaskDef → Bool
are_times_within percent task = list_all (λ (runnable : RunnableDef). nat_le (grown_greatest percent runnable) MOST_TICKS) task.runnables

-- the answer for a task may change as the times of one grow: it is that one, or one below it on its core, or one above it
-- there that a whole runnable of it may block
abbrev pub reaches : SystemModel → (one task : ℕ) → Bool
reaches model one task = (core_of model task == core_of model one)
    && (nat_le (task_at model task).priority (task_at model one).priority || has_whole (task_at model one))

-- it may change as these times grow
abbrev pub touches : SystemModel → Whose → (task : ℕ) → Bool
touches model EveryTask task = true
touches model (OneTask one) task = reaches model one task

-- the bounds of a chain may change
abbrev pub touches_chain : SystemModel → Whose → (chain : ℕ) → Bool
touches_chain model whose chain = list_any (λ (group : Group). touches model whose group.task) (groups_at model chain)

-- the greatest percentage from 100 up to the most at which these times stay in range
pub record IsMostInRange (model : SystemModel) (whose : Whose) (percent : ℕ) : Type 0 where
  pub some : 100 ≤ percent
  pub few : percent ≤ MOST_PERCENT
  pub in_range : IsInRange (grown model whose percent)
  pub greatest : (other : ℕ) → percent < other → other ≤ MOST_PERCENT → IsInRange (grown model whose other) → ⊥
