-- The timing of a group by a response of its task always holds where the task is timely within it.
use Rattle.std.proofs.Common.{ℕ, ◌+◌, ◌<◌, ◌≤◌, length, refl, arith}
use Rattle.cl_model.specs.declared.group.Group.{Group}
use Rattle.cl_runs.specs.{TaskTiming.{System, timing_at, IsSound}, Table.job_at, Run.{Run, jobs_of}, Legal.IsLegal, Moments.Writes, Responses.IsTimely}
use Rattle.cl_runs.proofs.{RunArrivals.arrives_below, Extension.extension, Agreement.{job_kept, arrival_kept, write_returns}}
use Rattle.cl_comm.specs.Windows.{window_at}
use Rattle.cl_comm.proofs.AccessTimes.{reads_come_late, writes_come_in_time, finished_jobs_write}
use Rattle.cl_hop.specs.{Hops.group_timing, Timings.{IsGroupOfTask, IsTimingOf, AlwaysKeeps}}

-- what the bounds know of a group by responses is of the group
pub response_timing_is : (system : System) (responses : ℕ → ℕ) (group : Group) → IsTimingOf system group (group_timing system responses group)
unfolding group_timing
response_timing_is system responses group = record {
  task = refl;
  core = refl;
  priority = refl;
  is_timed = refl;
  jitter = refl;
  distance = refl;
}

-- each job of a timely task has written by the end of its window, where the run lasts so long
written_in_window : (system : System) (sound : IsSound system) (run : Run) (legal : IsLegal system run) (i response p : ℕ)
    → IsTimely system i response → p < length (timing_at system i).ranges → (k : ℕ) → k < length (jobs_of run i)
    → (job_at (jobs_of run i) k).arrival + (window_at (timing_at system i) p response).whi ≤ run.table.ticks
    → (t : ℕ) × Writes system run i k p t × (t ≤ (job_at (jobs_of run i) k).arrival + (window_at (timing_at system i) p response).whi)
written_in_window system sound run legal i response p timely place k job lasts =
    let (longer, end, legal_longer, goes_on) = extension system sound run legal (run.table.ticks + response) (omega arith) in
    let same = arrival_kept system run longer goes_on i k job in
    let early = arrives_below system sound run legal i timely.is_task k job in
    let (f, finishes, in_time) = (timely.always longer legal_longer).each k (job_kept system run longer goes_on i k job) (omega (arith, same, early, end)) in
    let (t, writes) = finished_jobs_write system sound longer legal_longer i k p response f finishes in_time timely.by_deadline place
    (omega (arith, same, lasts, end)) in
    let by = writes_come_in_time system sound longer legal_longer i k p response f t finishes in_time writes in (
      t,
      write_returns system sound run longer legal legal_longer goes_on i k p t writes (omega (arith, same, by, lasts)),
      omega (arith, same, by),
    )

pub timely_keeps : (system : System) → IsSound system → (responses : ℕ → ℕ) (group : Group) → IsGroupOfTask system group
    → IsTimely system group.task (responses group.task) → AlwaysKeeps system group (group_timing system responses group)
unfolding group_timing
timely_keeps system sound responses group is timely = record {
  is_group = is;
  of_group = response_timing_is system responses group;
  always = λ run legal. record {
    reads = λ job tick reads. reads_come_late system sound run legal group.task job group.first (responses group.task) tick reads;
    writes = written_in_window system sound run legal group.task (responses group.task) group.last timely is.is_runnable;
  };
}
