-- The numbers of the timing by phases of a group of a valid model, whose task isn't late, are those of a valid model.
use Rattle.std.proofs.Common.{◌≡◌, ℕ, ◌≤◌, false, arith}
use Rattle.cl_model.specs.{declared.{group.Group.Group, limits.TheConstants.MOST_TICKS, model.SystemModel.SystemModel}, Groups.IsGroupOf, Validity.IsValid}
use Rattle.cl_runs.specs.{SystemOf.system_of, TaskTiming.timing_at}
use Rattle.cl_runs.proofs.{ModelSystem.system_sound, PatternFacts.distances_ordered}
use Rattle.cl_comm.specs.Windows.{spot_at}
use Rattle.cl_comm.proofs.AccessTimes.{windows_end_by_the_deadline}
use Rattle.cl_hop.specs.Hops.{group_timing, IsNear}
use Rattle.cl_hop.proofs.{GroupWindows.{spot_fits, spot_in_time}, ModelGroups.{group_of_system, distance_near, window_near}}
use Rattle.cl_bound.specs.Answers.{is_late, answer_at}
use Rattle.cl_tight.specs.{TightAnswers.{tight_answers_of, tight_response}, TightTimings.{earliest_read, latest_write, tight_timing}}
use Rattle.cl_tight.proofs.{EarliestReads.read_by_deadline, LatestWrites.write_within, TightTasks.tight_task, TightTimings.{holds_execution, by_deadline}}

-- the deadline of a task is
deadline_near : (model : SystemModel) → IsValid model → (group : Group) → IsGroupOf model group
    → (timing_at (system_of model) group.task).deadline ≤ MOST_TICKS
unfolding group_timing
deadline_near model valid group is =
    let system = system_of model in
    let task = (system_sound model valid).tasks group.task (group_of_system model group is).is_task in
    let ordered = distances_ordered (timing_at system group.task).pattern task.pattern in
    omega (arith, task.within_distance, ordered, distance_near model valid (λ (_ : ℕ). 0) group is.known)

pub tight_near : (model : SystemModel) → IsValid model → (group : Group) → IsGroupOf model group
    → is_late (answer_at (tight_answers_of (system_of model)) group.task) ≡ false → IsNear (tight_timing (system_of model) group)
unfolding tight_timing spot_at
tight_near model valid group is timely =
    let system = system_of model in
    let sound = system_sound model valid in
    let there = group_of_system model group is in
    let response : ℕ = tight_response system group.task in
    let settled = tight_task system group.task there.is_task timely in
    let holds = holds_execution system sound group.task response settled in
    let within = by_deadline system sound group.task response settled in
    let near = deadline_near model valid group is in
    let spot = spot_at (timing_at system group.task) group.last in
    let ends = windows_end_by_the_deadline (timing_at system group.task).access spot response
    (spot_fits system sound group.task group.last response there.is_task holds there.is_runnable)
    (spot_in_time system group.task group.last response within) in
    let read = read_by_deadline system sound group.task response there.is_task holds within group.first (omega (arith, there.ordered, there.is_runnable)) in
    window_near model valid group is.known (earliest_read system group) (latest_write system group) (omega (arith, near, read))
    (omega (arith, near, ends, write_within system sound (tight_response system) group there settled))
