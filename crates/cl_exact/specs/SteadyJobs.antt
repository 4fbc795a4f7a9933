-- From which jobs on chains count, as numbers. Times are in ticks.
use Rattle.std.specs.Prelude.{ℕ, ◌-◌, List}
use Rattle.std.specs.Int.{div_ceil}
use Rattle.cl_model.specs.{declared.group.Group.Group, Holds.greatest_by}
use Rattle.cl_runs.specs.{Pattern.first_least, TaskTiming.{System, timing_at}, Chains.{first_group, last_group}}
use Rattle.cl_exact.specs.{Hyperperiod.period_of, ExactLengths.{second_arrival, start_up}}

-- the first job of a periodic group that arrives at or after a moment
abbrev pub first_arrival_from : System → Group → (moment : ℕ) → ℕ
first_arrival_from system group moment = div_ceil (moment - first_least (timing_at system group.task).pattern) (period_of system group)

-- the moment at which all tasks of a chain have begun: job 1 of each has arrived, the last of them just then
abbrev pub all_begun : System → List Group → ℕ
all_begun system groups = greatest_by (second_arrival system) groups

-- the least first job of the forward chains that count
abbrev pub first_steady_job : System → List Group → ℕ
first_steady_job system groups = first_arrival_from system (first_group groups) (all_begun system groups)

-- the least last job of the backward chains that count
abbrev pub last_steady_job : System → List Group → ℕ
last_steady_job system groups = first_arrival_from system (last_group groups) (start_up system groups)
