-- When the moments at which the jobs of some groups read and write are in order.
use Rattle.std.specs.Prelude.{◌≡◌, ℕ, ◌<◌, List, length, All}
use Rattle.cl_model.specs.{declared.group.Group.Group, Groups.group_at}
use Rattle.cl_runs.specs.{TaskTiming.System, Chains.Moments}

-- each job of the groups reads at most once, and writes at most once
pub record AreUnique (moments : Moments) (groups : List Group) : Type 0 where
  pub reads : (i job s t : ℕ) → i < length groups
      → moments.reads (group_at groups i) job s → moments.reads (group_at groups i) job t → s ≡ t
  pub writes : (i job s t : ℕ) → i < length groups
      → moments.writes (group_at groups i) job s → moments.writes (group_at groups i) job t → s ≡ t

-- beside that, the reads and the writes of each group rise with the job
pub record AreInOrder (moments : Moments) (groups : List Group) : Type 0 where
  pub unique : AreUnique moments groups
  pub reads_rise : (i k l s t : ℕ) → i < length groups → k < l
      → moments.reads (group_at groups i) k s → moments.reads (group_at groups i) l t → s < t
  pub writes_rise : (i k l s t : ℕ) → i < length groups → k < l
      → moments.writes (group_at groups i) k s → moments.writes (group_at groups i) l t → s < t

-- each job of the groups that has written has read before
abbrev pub HaveReadBeforeWriting : Moments → List Group → Type 0
HaveReadBeforeWriting moments groups = (i job write : ℕ) → i < length groups → moments.writes (group_at groups i) job write
    → (read : ℕ) × (read < write) × moments.reads (group_at groups i) job read

-- each group is of a task of the system
abbrev pub AreGroupsOf : System → List Group → Type 0
AreGroupsOf system groups = All (λ (group : Group). group.task < length system.tasks) groups
