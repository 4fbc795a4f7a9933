-- The text of the best orders of a model: a title, and a line for each task, or one for a core that has none.
use Rattle.std.specs.Prelude.{◌≡◌, ℕ, List, [], ◌++◌, length, slice_index, slice_index_or, codes, decimal}
use Rattle.std.specs.List.{flat_map, range_with_len}
use Rattle.cl_text.specs.Line.{line}
use Rattle.cl_model.specs.{declared.model.SystemModel.SystemModel, ByNumber.task_at, Named.core_names}
use Rattle.cl_runs.specs.Requirements.{MeetsDeadlines}
use Rattle.cl_tune.specs.{declared.answer.OrderAnswer.{OrderAnswer, TheVariants.{Order, NoOrder}}, BestOrders.IsOrderAnswer, Priorities.with_all_priorities}

-- the line of a task
unfoldable pub priority_line : SystemModel → (priorities : List ℕ) → (task : ℕ) → List ℕ
priority_line model priorities task =
    line (codes "priority " ++ (task_at model task).name ++ codes " " ++ decimal (slice_index priorities task))

-- the name of the core of a number
abbrev pub core_name : SystemModel → (core : ℕ) → List ℕ
core_name model core = slice_index_or (core_names model) core []

-- the line of a core of which no order passes
unfoldable pub none_line : SystemModel → (core : ℕ) → List ℕ
none_line model core = line (codes "none " ++ core_name model core)

-- the lines of an answer
abbrev pub order_lines : SystemModel → OrderAnswer → List ℕ
order_lines model (Order priorities) = flat_map (priority_line model priorities) (range_with_len 0 (length model.tasks))
order_lines model (NoOrder core) = none_line model core

-- the text of an answer
unfoldable pub order_text : SystemModel → OrderAnswer → List ℕ
order_text model answer = line (codes "chainlat order 1") ++ order_lines model answer

-- the text is that of the model's best orders
pub record IsOrderTextOf (model : SystemModel) (text : List ℕ) : Type 0 where
  pub answer : OrderAnswer
  pub is : IsOrderAnswer model answer
  pub printed : text ≡ order_text model answer

-- ---- what is promised

-- the deadlines of a model with these priorities are met in every legal run, of any length; of no order nothing is said
abbrev pub OrderIsSafe : SystemModel → OrderAnswer → Type 0
OrderIsSafe model (Order priorities) = MeetsDeadlines (with_all_priorities model (slice_index priorities))
OrderIsSafe model (NoOrder core) = Unit {0}

-- The text has the best priorities of the model, with which all deadlines are met in every legal run, or a core that has
-- none. It promises nothing of requirements.
pub record IsSafeOrderText (model : SystemModel) (text : List ℕ) : Type 0 where
  pub order : IsOrderTextOf model text
  pub in_time : OrderIsSafe model order.answer
