-- How far exact lengths are sought: the hyperperiod of a chain, and the limit on it. Times are in ticks.
use Rattle.std.specs.Prelude.{ℕ, ◌*◌, ◌<◌, ◌≤◌, List, All, min}
use Rattle.std.specs.Int.{◌∣◌}
use Rattle.cl_model.specs.{declared.group.Group.Group, Timing.least_distance}
use Rattle.cl_runs.specs.{TaskTiming.{System, timing_at}, Chains.{first_group, last_group}}
use Rattle.cl_exact.specs.declared.limit.TheConstants.{MOST_FIRST_JOBS}

-- the period of the task of a group
abbrev pub period_of : System → Group → ℕ
period_of system group = least_distance (timing_at system group.task).pattern

-- each period of a chain divides a number of ticks
abbrev pub IsMultipleOfPeriods : System → List Group → (ticks : ℕ) → Type 0
IsMultipleOfPeriods system groups ticks = All (λ (group : Group). period_of system group ∣ ticks) groups

-- the hyperperiod of a chain: the least common multiple of its periods
pub record IsHyperperiod (system : System) (groups : List Group) (ticks : ℕ) : Type 0 where
  pub multiple : IsMultipleOfPeriods system groups ticks
  pub least : (other : ℕ) → IsMultipleOfPeriods system groups other → ticks ∣ other

-- the limit: so many of the lesser of the first and the last period
abbrev pub hyper_limit : System → List Group → ℕ
hyper_limit system groups = MOST_FIRST_JOBS * min (period_of system (first_group groups)) (period_of system (last_group groups))

-- the hyperperiod is within the limit
pub record IsWithinLimit (system : System) (groups : List Group) : Type 0 where
  pub hyperperiod : ℕ
  pub is_hyperperiod : IsHyperperiod system groups hyperperiod
  pub within : hyperperiod ≤ hyper_limit system groups

-- the hyperperiod exceeds the limit
pub record IsPastLimit (system : System) (groups : List Group) : Type 0 where
  pub hyperperiod : ℕ
  pub is_hyperperiod : IsHyperperiod system groups hyperperiod
  pub past : hyper_limit system groups < hyperperiod
