-- The best orders of the cores of a model.
use Rattle.std.specs.Prelude.{◌≡◌, ℕ, ◌<◌, List, length, slice_index}
use Rattle.cl_model.specs.{declared.model.SystemModel.SystemModel, ByNumber.core_of}
use Rattle.cl_tune.specs.{declared.answer.OrderAnswer.{OrderAnswer, TheVariants.{Order, NoOrder}}, Dictionary.ComesNoLater, Orders.{priority_in, IsPassingOrder}}

-- the best order of a core: it passes, and of those that do it is the first in dictionary order
pub record IsBestOrder (model : SystemModel) (core : ℕ) (order : List ℕ) : Type 0 where
  pub passing : IsPassingOrder model core order
  pub first : (other : List ℕ) → IsPassingOrder model core other → ComesNoLater order other

-- no order of a core passes
abbrev pub HasNoOrder : SystemModel → (core : ℕ) → Type 0
HasNoOrder model core = (order : List ℕ) → IsPassingOrder model core order → ⊥

-- the tasks of a core have the priorities that its best order gives them
pub record HasBestPriorities (model : SystemModel) (priorities : List ℕ) (core : ℕ) : Type 0 where
  pub order : List ℕ
  pub best : IsBestOrder model core order
  pub given : (task : ℕ) → task < length model.tasks → core_of model task ≡ core → slice_index priorities task ≡ priority_in order task

-- one priority a task, and on every core those of its best order
pub record AreBestPriorities (model : SystemModel) (priorities : List ℕ) : Type 0 where
  pub one_a_task : length priorities ≡ length model.tasks
  pub cores : (core : ℕ) → core < length model.cores → HasBestPriorities model priorities core

-- the first core of which no order passes
pub record IsFirstWithoutOrder (model : SystemModel) (core : ℕ) : Type 0 where
  pub is_core : core < length model.cores
  pub none : HasNoOrder model core
  pub first : (earlier : ℕ) → earlier < core → (order : List ℕ) × IsPassingOrder model earlier order

-- the answer for a model: the best priorities, or the first core that has none
abbrev pub IsOrderAnswer : SystemModel → OrderAnswer → Type 0
IsOrderAnswer model (Order priorities) = AreBestPriorities model priorities
IsOrderAnswer model (NoOrder core) = IsFirstWithoutOrder model core
