-- Chains of a system none of whose tasks is late.
use Rattle.std.specs.Prelude.{ℕ, ◌≤◌, List, All}
use Rattle.cl_model.specs.declared.group.Group.{Group}
use Rattle.cl_runs.specs.TaskTiming.{System}
use Rattle.cl_hop.specs.Timings.{IsGroupOfTask}
use Rattle.cl_bound.specs.{Answers.{answers_of, NoneIsLate}, Bounds.settled_timing}

-- a chain of a system that isn't late: none of its tasks is
pub record IsSettledChain (system : System) (groups : List Group) : Type 0 where
  pub groups_of : All (IsGroupOfTask system) groups
  pub settled : NoneIsLate (answers_of system) groups

-- the greatest distances between the arrivals of groups are at most so many ticks
abbrev pub AreWithin : System → (most : ℕ) → (groups : List Group) → Type 0
AreWithin system most groups = All (λ (group : Group). (settled_timing system group).distance ≤ most) groups
