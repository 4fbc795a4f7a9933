-- In a legal run the jobs of a task that is periodic, timed and timely read and write at their ideal moments.
use Rattle.std.proofs.Common.{◌≡◌, ℕ, ◌+◌, ◌*◌, ◌<◌, ◌≤◌, inl, inr, length, refl, sym, subst, arith}
use Rattle.std.proofs.lemmas.Bool.{cases_lt}
use Rattle.std.proofs.Math.Nat.{mul-le-mul_right}
use Rattle.cl_model.specs.{declared.{stimulus.StimulusKind.{StimulusKind, TheVariants.Periodic}, task.AccessKind.{AccessKind, TheVariants.Timed}, group.Group.Group}, Timing.{least_distance, greatest_jitter}}
use Rattle.cl_runs.specs.{TaskTiming.{System, timing_at, IsSound}, Pattern.first_least, Arrivals.FollowPattern, ArrivalsByKind.FollowsPeriod, Table.job_at, Run.{Run, jobs_of}, Legal.IsLegal, Moments.{ReadsBy, WritesBy, Reads, Writes, WritesAtDeadline}, RunChains.{ArrivesAt, run_moments}}
use Rattle.cl_runs.specs.{RunChains.ideal_moments, Responses.IsTimely}
use Rattle.cl_runs.proofs.{RunArrivals.follow_pattern, PatternLaws.pattern_period, MomentFacts.{reads_below, writes_within}}
use Rattle.cl_exact.specs.RunPromises.{IsIdealUntilTheEnd}

-- ---- the numbers of a periodic task

abbrev pub task_offset : System → (i : ℕ) → ℕ
task_offset system i = first_least (timing_at system i).pattern

abbrev pub task_period : System → (i : ℕ) → ℕ
task_period system i = least_distance (timing_at system i).pattern

-- the arrival of a job, if the task is periodic
abbrev pub task_arrival : System → (i k : ℕ) → ℕ
task_arrival system i k = task_offset system i + k * task_period system i

-- a task that is periodic and timed, and timely
pub record IsIdealTask (system : System) (i : ℕ) : Type 0 where
  pub periodic : (timing_at system i).pattern ≡ Periodic (task_period system i) (task_offset system i) (greatest_jitter (timing_at system i).pattern)
  pub timed : (timing_at system i).access ≡ Timed
  pub response : ℕ
  pub timely : IsTimely system i response

module _ (system : System) (i : ℕ) (is : IsIdealTask system i) where
  -- a job arrives at one tick
  pub arrives : (k t : ℕ) → t ≡ task_arrival system i k → ArrivesAt (timing_at system i).pattern k t
  arrives k t at = subst (λ (kind : StimulusKind). ArrivesAt kind k t) (sym is.periodic) at

  pub arrived : (k t : ℕ) → ArrivesAt (timing_at system i).pattern k t → t ≡ task_arrival system i k
  arrived k t at = subst (λ (kind : StimulusKind). ArrivesAt kind k t) is.periodic at

module _ (system : System) (sound : IsSound system) (run : Run) (legal : IsLegal system run) (i : ℕ) (is : IsIdealTask system i) where
  follows : FollowsPeriod run.table.ticks (task_period system i) (task_offset system i) (greatest_jitter (timing_at system i).pattern) (jobs_of run i)
  follows = pattern_period run.table.ticks _ _ _ (jobs_of run i)
      (subst (λ (kind : StimulusKind). FollowPattern kind run.table.ticks (jobs_of run i)) is.periodic
      (follow_pattern system sound run legal i is.timely.is_task))

  arrival_is : (k : ℕ) → k < length (jobs_of run i) → (job_at (jobs_of run i) k).arrival ≡ task_arrival system i k
  arrival_is k h = let each = follows.each k h in omega (arith, each.not_early, each.not_late)

  -- the jobs that arrive below the end are in the table
  in_table : (k : ℕ) → task_arrival system i k < run.table.ticks → k < length (jobs_of run i)
  in_table k early = elim (cases_lt k (length (jobs_of run i))) [
    | inl below ↦ below
    | inr past ↦ absurd (omega (arith, early, follows.end, mul-le-mul_right (task_period system i) past))
  ]

  read_is : (k p t : ℕ) → Reads system run i k p t → t ≡ task_arrival system i k
  read_is k p t reads =
      let moment : t ≡ (job_at (jobs_of run i) k).arrival = subst (λ (a : AccessKind). ReadsBy a system run i k p t) is.timed reads.moment in
      omega (arith, moment, arrival_is k reads.in_table)

  reads_so : (k p t : ℕ) → p < length (timing_at system i).ranges → k < length (jobs_of run i) → t ≡ task_arrival system i k → Reads system run i k p t
  reads_so k p t place job at =
      let moment : t ≡ (job_at (jobs_of run i) k).arrival = omega (arith, at, arrival_is k job) in
      record { in_table = job; is_runnable = place; moment = subst (λ (a : AccessKind). ReadsBy a system run i k p t) (sym is.timed) moment }

  write_is : (k p t : ℕ) → Writes system run i k p t → t ≡ task_arrival system i k + (timing_at system i).deadline
  write_is k p t writes =
      let moment : WritesAtDeadline system run i k t = subst (λ (a : AccessKind). WritesBy a system run i k p t) is.timed writes.moment in
      omega (arith, moment.at_deadline, arrival_is k writes.in_table)

  writes_so : (k p t : ℕ) → p < length (timing_at system i).ranges → t ≡ task_arrival system i k + (timing_at system i).deadline
      → t ≤ run.table.ticks → Writes system run i k p t
  writes_so k p t place at by =
      let task = is.timely.is_task in
      let job = in_table k (omega (arith, at, by, (sound.tasks i task).above_jitter)) in
      let here = arrival_is k job in
      let soon = is.timely.by_deadline in
      let (finish, finishes, in_time) = (is.timely.always run legal).each k job (omega (arith, here, at, by, soon)) in
      let moment : WritesAtDeadline system run i k t
      = record { finish = finish; finishes = finishes; in_time = omega (arith, in_time, here, at, soon); at_deadline = omega (arith, here, at); by_end = by } in
      record { in_table = job; is_runnable = place; moment = subst (λ (a : AccessKind). WritesBy a system run i k p t) (sym is.timed) moment }

-- ---- its groups

-- a group of such a task, whose runnables are some of the task
pub record IsIdealGroup (system : System) (group : Group) : Type 0 where
  pub task : IsIdealTask system group.task
  pub first : group.first < length (timing_at system group.task).ranges
  pub last : group.last < length (timing_at system group.task).ranges

-- in a legal run such a group reads and writes at its ideal moments
pub ideal_until_the_end : (system : System) → IsSound system → (group : Group) → IsIdealGroup system group
    → (run : Run) → IsLegal system run → IsIdealUntilTheEnd system run group
unfolding run_moments ideal_moments
ideal_until_the_end system sound group is run legal = record {
  jobs = λ k. (
    λ job. record {
      read = task_arrival system group.task k;
      reads = reads_so system sound run legal group.task is.task k _ _ is.first job refl;
    },
    λ read. read.reads.in_table,
  );
  reads = λ k t. (
    λ reads. (
      arrives system group.task is.task k t (read_is system sound run legal group.task is.task k _ t reads),
      reads_below system sound run legal group.task k _ t reads,
    ),
    λ ideal.
        let at = arrived system group.task is.task k t ideal.0 in
        reads_so system sound run legal group.task is.task k _ t is.first
        (in_table system sound run legal group.task is.task k (omega (arith, at, ideal.1))) at,
  );
  writes = λ k t. (
    λ writes. (
      (
        task_arrival system group.task k,
        arrives system group.task is.task k _ refl,
        write_is system sound run legal group.task is.task k _ t writes,
      ),
      writes_within system sound run legal group.task k _ t writes,
    ),
    λ ideal.
        let at = arrived system group.task is.task k ideal.0.0 ideal.0.1 in
        writes_so system sound run legal group.task is.task k _ t is.last (omega (arith, at, ideal.0.2)) ideal.1,
  );
}
