-- Where a job of one group reads before a job of another writes, it arrived at most so much later: by the jitter where
-- the hop saves, else by when the writer writes.
use Rattle.std.proofs.Common.{◌≡◌, ◌≢◌, ℕ, ◌+◌, ◌<◌, ◌≤◌, true, inl, inr, not, nat_lt, length, sym, ap, ◌∙◌, subst, arith}
use Rattle.std.specs.Prelude.{◌==◌, ◌&&◌}
use Rattle.std.proofs.lemmas.Bool.{cases_lt, and_parts, ltb-true, eqb-true, true≢false}
use Rattle.cl_model.specs.{declared.{group.Group.Group, task.AccessKind.{AccessKind, TheVariants.Timed}}, Kinds.is_timed}
use Rattle.cl_runs.specs.{TaskTiming.{Timing, System, timing_at, IsSound}, Table.job_at, Run.{Run, jobs_of}, Legal.IsLegal, Moments.{Reads, Writes}}
use Rattle.cl_runs.proofs.{MomentFacts.writes_once, RunArrivals.released_within}
use Rattle.cl_comm.proofs.AccessTimes.{readers_run, readers_write_by_their_finish, writes_come_before_the_next_read}
use Rattle.cl_hop.specs.{Hops.saves, Timings.{IsTimingOf, AlwaysKeeps}, declared.group_timing.GroupTiming.GroupTiming}
use Rattle.cl_hop.proofs.{HigherFinished.finished_before, LaterRuns.writes_in_time}

not_timed : (access : AccessKind) → not (is_timed access) ≡ true → access ≢ Timed
not_timed access other timed = true≢false (sym other ∙ ap (λ a. not (is_timed a)) timed)

-- what it means that a hop saves
record IsSaving (writer reader : Timing) : Type 0 where
  same_core : writer.core ≡ reader.core
  higher : reader.priority < writer.priority
  writer_runs : writer.access ≢ Timed
  reader_runs : reader.access ≢ Timed

is_saving : (writer reader : Timing)
    → ((writer.core == reader.core) && (nat_lt reader.priority writer.priority && (not (is_timed writer.access) && not (is_timed reader.access)))) ≡ true
    → IsSaving writer reader
is_saving writer reader saved =
    let (core, rest) = and_parts (writer.core == reader.core) _ saved in
    let (priority, run) = and_parts (nat_lt reader.priority writer.priority) _ rest in
    let (one, other) = and_parts (not (is_timed writer.access)) (not (is_timed reader.access)) run in
    record {
      same_core = eqb-true writer.core reader.core core;
      higher = ltb-true reader.priority writer.priority priority;
      writer_runs = not_timed writer.access one;
      reader_runs = not_timed reader.access other;
    }

module _ (system : System) (sound : IsSound system) (run : Run) (legal : IsLegal system run) (x y : ℕ)
    (is_x : x < length system.tasks) (is_y : y < length system.tasks) where
  -- a reader that reads before the write of a higher writer reads before its release
  read_before_release : IsSaving (timing_at system x) (timing_at system y) → (k p r m q w : ℕ)
      → Reads system run y k p r → Writes system run x m q w → r < w → r < (job_at (jobs_of run x) m).release
  read_before_release saving k p r m q w reads writes before = elim (cases_lt r (job_at (jobs_of run x) m).release) [
    | inl early ↦ early
    | inr is_released ↦
        let (place, starts) = readers_run system sound run legal y saving.reader_runs k p r reads in
        let (f, by, finishes) = finished_before system sound run legal x y is_x saving.same_core saving.higher k place r m
        starts writes.in_table is_released in
        let (other, earlier, again) = readers_write_by_their_finish system sound run legal x saving.writer_runs m q f finishes writes.is_runnable in
        absurd (omega (arith, before, by, earlier, writes_once system run x m q other w again writes))
  ]

-- a hop between groups saves by what is so of their tasks
saves_by_tasks : (system : System) (x y : Group) (writer reader : GroupTiming) → IsTimingOf system x writer → IsTimingOf system y reader
    → saves writer reader
    ≡ ((timing_at system x.task).core == (timing_at system y.task).core)
    && (nat_lt (timing_at system y.task).priority (timing_at system x.task).priority
    && (not (is_timed (timing_at system x.task).access) && not (is_timed (timing_at system y.task).access)))
saves_by_tasks system x y writer reader w r =
    let core = w.core in
    let priority = w.priority in
    let timed = w.is_timed in
    let other_core = r.core in
    let other_priority = r.priority in
    let other_timed = r.is_timed in
    cc

module _ (system : System) (sound : IsSound system) (x y : Group) (writer reader : GroupTiming)
    (keeps_x : AlwaysKeeps system x writer) (keeps_y : AlwaysKeeps system y reader)
    (run : Run) (legal : IsLegal system run) (k m r w : ℕ)
    (reads : Reads system run y.task k y.first r) (writes : Writes system run x.task m x.last w) (before : r < w) where
  reads_late : (job_at (jobs_of run y.task) k).arrival + reader.read ≤ r
  reads_late = (keeps_y.always run legal).reads k r reads

  -- a job that reads before a write arrived at most the jitter after the writer, where the hop saves
  pub arrival_where_saved : saves writer reader ≡ true
      → (job_at (jobs_of run y.task) k).arrival + reader.read + 1 ≤ (job_at (jobs_of run x.task) m).arrival + writer.jitter
  arrival_where_saved saved = omega (
    arith,
    reads_late,
    read_before_release system sound run legal x.task y.task keeps_x.is_group.is_task keeps_y.is_group.is_task
        (is_saving (timing_at system x.task) (timing_at system y.task)
        (sym (saves_by_tasks system x y writer reader keeps_x.of_group keeps_y.of_group) ∙ saved)) k y.first r m x.last w reads writes before,
    released_within system sound run legal x.task keeps_x.is_group.is_task m writes.in_table,
    keeps_x.of_group.jitter,
  )

  -- and at most as long after it as its write comes
  pub arrival_before_write : (job_at (jobs_of run y.task) k).arrival + reader.read + 1 ≤ (job_at (jobs_of run x.task) m).arrival + writer.write
  arrival_before_write = omega (
    arith,
    reads_late,
    before,
    writes_in_time system sound run legal x writer keeps_x m w writes,
  )

-- of one task, a job that reads before another writes is no later job
pub job_before_write : (system : System) → IsSound system → (run : Run) → IsLegal system run → (x y k p r m q w : ℕ) → x ≡ y
    → Reads system run y k p r → Writes system run x m q w → r < w → k ≤ m
job_before_write system sound run legal x y k p r m q w same reads writes before = elim (cases_lt m k) [
  | inl earlier ↦ absurd (omega (
    arith,
    before,
    writes_come_before_the_next_read system sound run legal y m q k p w r earlier (subst (λ (i : ℕ). Writes system run i m q w) same writes) reads,
  ))
  | inr within ↦ within
]
