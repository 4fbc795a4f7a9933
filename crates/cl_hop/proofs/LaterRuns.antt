-- What a longer run says of a group whose window is always kept: its writes come in time, and its next job writes.
use Rattle.std.proofs.Common.{ℕ, suc, ◌+◌, ◌<◌, ◌≤◌, length, arith}
use Rattle.cl_model.specs.{declared.group.Group.Group, Timing.greatest_distance}
use Rattle.cl_runs.specs.{TaskTiming.{System, timing_at, IsSound}, Table.job_at, Run.{Run, jobs_of}, Legal.IsLegal, Moments.Writes, GoesOn.GoesOn}
use Rattle.cl_runs.proofs.{MomentFacts.writes_once, RunArrivals.{arrives_below, next_within, next_due}, Extension.extension, Agreement.{job_kept, arrival_kept, writes_kept}}
use Rattle.cl_hop.specs.{declared.group_timing.GroupTiming.GroupTiming, Timings.AlwaysKeeps}

-- a legal run that goes on from a run, in which the job after job k has written
pub record NextWrite (system : System) (run : Run) (i k p : ℕ) : Type 0 where
  pub longer : Run
  pub legal : IsLegal system longer
  pub goes_on : GoesOn run longer
  pub in_table : suc k < length (jobs_of longer i)
  pub write : ℕ
  pub writes : Writes system longer i (suc k) p write

module _ (system : System) (sound : IsSound system) (run : Run) (legal : IsLegal system run)
    (group : Group) (timing : GroupTiming) (keeps : AlwaysKeeps system group timing) where
  -- each write comes in time, however soon the run ends
  pub writes_in_time : (k t : ℕ) → Writes system run group.task k group.last t
      → t ≤ (job_at (jobs_of run group.task) k).arrival + timing.write
  writes_in_time k t writes =
      let (longer, end, legal_longer, goes_on) = extension system sound run legal (run.table.ticks + timing.write) (omega arith) in
      let same = arrival_kept system run longer goes_on group.task k writes.in_table in
      let early = arrives_below system sound run legal group.task keeps.is_group.is_task k writes.in_table in
      let (w, again, in_time) = (keeps.always longer legal_longer).writes k (job_kept system run longer goes_on group.task k writes.in_table)
      (omega (arith, same, early, end)) in
      omega (
        arith,
        same,
        in_time,
        writes_once system longer group.task k group.last t w (writes_kept system run longer goes_on group.task k group.last t writes) again,
      )

  -- where a run goes on long enough, the next job of a job has arrived in it and written
  module _ (longer : Run) (legal_longer : IsLegal system longer) (goes_on : GoesOn run longer) (k : ℕ) (job : k < length (jobs_of run group.task))
      (long : run.table.ticks + (greatest_distance (timing_at system group.task).pattern + timing.write) ≤ longer.table.ticks) where
    pub next_in_table : suc k < length (jobs_of longer group.task)
    next_in_table = next_due system sound longer legal_longer group.task keeps.is_group.is_task k (job_kept system run longer goes_on group.task k job)
        (omega (arith, arrival_kept system run longer goes_on group.task k job, arrives_below system sound run legal group.task keeps.is_group.is_task k job, long))

    pub next_writes : (write : ℕ) × Writes system longer group.task (suc k) group.last write
    next_writes =
        let same = arrival_kept system run longer goes_on group.task k job in
        let early = arrives_below system sound run legal group.task keeps.is_group.is_task k job in
        let soon = next_within system sound longer legal_longer group.task keeps.is_group.is_task k next_in_table in
        let (write, writes, by) = (keeps.always longer legal_longer).writes (suc k) next_in_table (omega (arith, same, early, long, soon)) in
        (write, writes)

  -- the next job of a job writes in a longer run
  pub next_write : (k : ℕ) → k < length (jobs_of run group.task) → NextWrite system run group.task k group.last
  next_write k job =
      let (longer, end, legal_longer, goes_on) = extension system sound run legal
      (run.table.ticks + (greatest_distance (timing_at system group.task).pattern + timing.write)) (omega arith) in
      let next = next_writes longer legal_longer goes_on k job (omega (arith, end)) in
      record {
        longer = longer;
        legal = legal_longer;
        goes_on = goes_on;
        in_table = next_in_table longer legal_longer goes_on k job (omega (arith, end));
        write = next.0;
        writes = next.1;
      }
