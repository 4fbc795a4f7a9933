-- Groups that read and write alike, maybe of two systems.
use Rattle.std.specs.Prelude.{◌≡◌, ℕ, ◌<◌, ◌↔◌, List, length}
use Rattle.cl_model.specs.{declared.group.Group.Group, Groups.group_at}
use Rattle.cl_runs.specs.Chains.{Moments}

-- two lists have as many groups, and those of each place read and write at the same moments
pub record HaveSameMoments (one other : Moments) (groups others : List Group) : Type 0 where
  pub count : length groups ≡ length others
  pub reads : (place job tick : ℕ) → place < length groups
      → (one.reads (group_at groups place) job tick) ↔ (other.reads (group_at others place) job tick)
  pub writes : (place job tick : ℕ) → place < length groups
      → (one.writes (group_at groups place) job tick) ↔ (other.writes (group_at others place) job tick)
