-- In a legal run the jobs of a group whose timing always holds have written by moments that their numbers tell, if the
-- run lasts until then.
use Rattle.std.proofs.Common.{ℕ, zero, suc, ◌+◌, ◌*◌, ◌<◌, ◌≤◌, List, [], ◌∷◌, length, arith}
use Rattle.std.proofs.Math.Nat.{mul-le-mul_right}
use Rattle.cl_model.specs.{declared.{group.Group.Group, stimulus.StimulusKind.StimulusKind}, Groups.group_at, Timing.greatest_distance}
use Rattle.cl_runs.specs.{declared.job.Job.Job, Pattern.first_greatest, Arrivals.FollowPattern, TaskTiming.{System, timing_at, IsSound}, Table.job_at, Run.{Run, jobs_of}, Legal.IsLegal, MomentOrder.HaveReadBeforeWriting, RunChains.run_moments}
use Rattle.cl_runs.proofs.{MomentFacts.has_read, RunArrivals.{follow_pattern, arrivals_rise, next_within, next_due}}
use Rattle.cl_hop.specs.{Timings.AlwaysKeeps, declared.group_timing.GroupTiming.GroupTiming}
use Rattle.cl_hop.proofs.ChainBounds.{AreAlwaysKept}
use Rattle.cl_phase.proofs.JobsInTime.{KeepsUp}

-- ---- arrivals

-- a job is in the table and arrives by some moment
record ArrivesBy (jobs : List Job) (job by : ℕ) : Type 0 where
  in_table : job < length jobs
  in_time : (job_at jobs job).arrival ≤ by

first_arrives : (pattern : StimulusKind) (ticks : ℕ) (jobs : List Job) → FollowPattern pattern ticks jobs → first_greatest pattern < ticks
    → ArrivesBy jobs 0 (first_greatest pattern)
first_arrives pattern ticks [] follow early = absurd (omega (arith, follow, early))
first_arrives pattern ticks (job ∷ jobs) follow early = record { in_table = omega arith; in_time = follow.0.not_late }

-- the latest that a job of a number arrives
abbrev latest_arrival : StimulusKind → (job : ℕ) → ℕ
latest_arrival pattern job = first_greatest pattern + job * greatest_distance pattern

module _ (system : System) (sound : IsSound system) (run : Run) (legal : IsLegal system run) (i : ℕ) (is : i < length system.tasks) where
  arrives_by : (job : ℕ) → latest_arrival (timing_at system i).pattern job < run.table.ticks
      → ArrivesBy (jobs_of run i) job (latest_arrival (timing_at system i).pattern job)
  arrives_by zero early =
      let first = first_arrives (timing_at system i).pattern run.table.ticks (jobs_of run i)
      (follow_pattern system sound run legal i is) (omega (arith, early)) in
      record { in_table = first.in_table; in_time = omega (arith, first.in_time) }
  arrives_by (suc job) early =
      let before = arrives_by job (omega (arith, early)) in
      let in_table = next_due system sound run legal i is job before.in_table (omega (arith, before.in_time, early)) in
      record { in_table = in_table; in_time = omega (arith, before.in_time, next_within system sound run legal i is job in_table) }

  -- arrivals are 1 tick or more apart, so no job arrives earlier than its number says
  arrives_from : (job : ℕ) → job < length (jobs_of run i) → job ≤ (job_at (jobs_of run i) job).arrival
  arrives_from zero in_table = omega arith
  arrives_from (suc job) in_table = omega (
    arith,
    arrives_from job (omega (arith, in_table)),
    arrivals_rise system sound run legal i is job (suc job) (omega arith) in_table,
  )

-- ---- reads and writes

-- when the job of a number has written at the latest
abbrev pub latest_write : System → (timing : Group → GroupTiming) → Group → (job : ℕ) → ℕ
latest_write system timing group job = suc (latest_arrival (timing_at system group.task).pattern job + (timing group).write)

module _ (system : System) (sound : IsSound system) (run : Run) (legal : IsLegal system run) (timing : Group → GroupTiming) where
  pub keeps_up : (group : Group) → AlwaysKeeps system group (timing group)
      → KeepsUp (run_moments system run) run.table.ticks (latest_write system timing) group
  unfolding run_moments
  keeps_up group keeps last long job h =
      let earlier = mul-le-mul_right (greatest_distance (timing_at system group.task).pattern) h in
      let arrives = arrives_by system sound run legal group.task keeps.is_group.is_task job (omega (arith, earlier, long)) in
      let window = keeps.always run legal in
      let (write, writes, in_time) = window.writes job arrives.in_table (omega (arith, arrives.in_time, earlier, long)) in
      let (read, before, reads) = has_read system sound run legal group.task job group.first group.last write keeps.is_group.ordered writes in
      record {
        read = read;
        write = write;
        reads = reads;
        writes = writes;
        not_early = omega (
          arith,
          arrives_from system sound run legal group.task keeps.is_group.is_task job arrives.in_table,
          window.reads job read reads,
        );
        reads_first = before;
        in_time = omega (arith, in_time, arrives.in_time, earlier);
      }

  -- such groups read before they write
  pub kept_read_first : (groups : List Group) → AreAlwaysKept system timing groups → HaveReadBeforeWriting (run_moments system run) groups
  unfolding run_moments
  kept_read_first groups keep i job write h writes =
      has_read system sound run legal (group_at groups i).task job (group_at groups i).first (group_at groups i).last write
      (keep i h).is_group.ordered writes
