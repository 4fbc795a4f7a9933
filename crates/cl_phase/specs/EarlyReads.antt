-- Groups that read before their next job arrives.
use Rattle.std.specs.Prelude.{◌≤◌}
use Rattle.cl_model.specs.{declared.group.Group.Group, Timing.least_distance}
use Rattle.cl_runs.specs.TaskTiming.{System, timing_at}
use Rattle.cl_hop.specs.declared.group_timing.GroupTiming.{GroupTiming}

-- a group reads before its next job arrives: at most the least distance after its own job
abbrev pub ReadsBeforeNext : System → Group → GroupTiming → Type 0
ReadsBeforeNext system group timing = timing.read ≤ least_distance (timing_at system group.task).pattern
