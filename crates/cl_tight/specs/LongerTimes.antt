-- Groups whose times are no longer in one system than in another, and models that differ in greatest times alone.
use Rattle.std.specs.Prelude.{◌≡◌, ℕ, ◌≤◌}
use Rattle.cl_model.specs.{declared.{group.Group.Group, model.SystemModel.SystemModel}, Groups.groups_at}
use Rattle.cl_runs.specs.{SystemOf.system_of, TaskTiming.{System, timing_at}}
use Rattle.cl_lead.specs.LeastTimes.{HaveSameLeastTimes}
use Rattle.cl_resp.specs.{Clear.greatest_through, LesserTimes.TakesNoMore}

-- the task of a group, what blocks it and each task above it take at most as long in one system as in the other, and so
-- do its runnables up to the last of the group
pub record IsNoLonger (less more : System) (group : Group) : Type 0 where
  pub task : TakesNoMore less more group.task
  pub through : greatest_through (timing_at less group.task) group.last ≤ greatest_through (timing_at more group.task) group.last

-- two models have the same chains, of the same groups, and the same requirements, and their tasks differ in greatest times
-- alone, and in which runnables are whole
pub record DifferInGreatestTimes (one other : SystemModel) : Type 0 where
  pub tasks : HaveSameLeastTimes (system_of one) (system_of other)
  pub chains : one.chains ≡ other.chains
  pub groups : (chain : ℕ) → groups_at one chain ≡ groups_at other chain
  pub requirements : one.requirements ≡ other.requirements
