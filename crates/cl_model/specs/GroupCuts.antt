-- Steps cut where a group ends.
use Rattle.std.specs.Prelude.{◌≡◌, ℕ, List, ◌++◌, take, drop}
use Rattle.cl_model.specs.{declared.group.Step.Step, Groups.groups}

-- The steps cut behind so many of their groups: both parts have their own groups, and these are the groups of the
-- whole.
pub record IsCutAfter (steps : List Step) (count : ℕ) : Type 0 where
  pub front : List Step
  pub back : List Step
  pub whole : front ++ back ≡ steps
  pub groups_before : groups front ≡ take count (groups steps)
  pub groups_behind : groups back ≡ drop count (groups steps)
