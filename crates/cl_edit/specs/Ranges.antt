-- Which edits are in range: each number is one that a model file may have at the key that the edit sets, and each list
-- is one that a model file may have. Times are in ticks.
use Rattle.std.specs.Prelude.{◌≤◌, List, length, IfSome, All}
use Rattle.cl_model.specs.{declared.limits.TheConstants.{MOST_TICKS, MOST_PRIORITY, MOST_TASKS, MOST_REQUIRED}, Ranges.{IsTime, IsBurstCount, IsTaskInRange, IsChainInRange}}
use Rattle.cl_edit.specs.declared.edit.{NamedPriority.NamedPriority, Edit.{Edit, TheVariants.{Range, Whole, Period, Offset, Jitter, Distances, Burst, Deadline, Swap, Priorities, Move, Kind, AddTask, DropTask, AddChain, DropChain, Requirement, DropRequirement, Report, Tighten, Verify}}}

-- few enough priorities, each in range
pub record ArePrioritiesInRange (priorities : List NamedPriority) : Type 0 where
  pub few : length priorities ≤ MOST_TASKS
  pub each : All (λ p. p.priority ≤ MOST_PRIORITY) priorities

-- the numbers and lists of an edit
abbrev pub IsEditInRange : Edit → Type 0
IsEditInRange (Range runnable least greatest) = IsTime least × IsTime greatest
IsEditInRange (Whole runnable whole) = Unit {0}
IsEditInRange (Period stimulus period) = IsTime period
IsEditInRange (Offset stimulus offset) = offset ≤ MOST_TICKS
IsEditInRange (Jitter stimulus jitter) = jitter ≤ MOST_TICKS
IsEditInRange (Distances stimulus least greatest) = IsTime least × IsTime greatest
IsEditInRange (Burst stimulus period count distance) = IsTime period × IsBurstCount count × IsTime distance
IsEditInRange (Deadline task deadline) = IfSome deadline IsTime
IsEditInRange (Swap one other) = Unit {0}
IsEditInRange (Priorities priorities) = ArePrioritiesInRange priorities
IsEditInRange (Move task core priority) = priority ≤ MOST_PRIORITY
IsEditInRange (Kind task access) = Unit {0}
IsEditInRange (AddTask task) = IsTaskInRange task
IsEditInRange (DropTask task) = Unit {0}
IsEditInRange (AddChain chain) = IsChainInRange chain
IsEditInRange (DropChain chain) = Unit {0}
IsEditInRange (Requirement requirement) = requirement.most ≤ MOST_REQUIRED
IsEditInRange (DropRequirement requirement) = Unit {0}
IsEditInRange Report = Unit {0}
IsEditInRange Tighten = Unit {0}
IsEditInRange Verify = Unit {0}
