-- Where a task of a legal run stands in the work of its jobs.
use Rattle.std.proofs.Common.{◌≡◌, ℕ, suc, ◌+◌, ◌-◌, ◌<◌, ◌≤◌, inl, inr, Some, List, length, take, sym, ap, subst, ◌∙◌, arith, add-one}
use Rattle.std.specs.Prelude.{sum, sum_by, slice_index}
use Rattle.std.proofs.lemmas.Bool.{cases_lt}
use Rattle.std.proofs.lemmas.List.{get_or_past, take_all}
use Rattle.std.proofs.lemmas.List.Sums.{sum_by_more}
use Rattle.cl_model.specs.{declared.model.SystemModel.SystemModel, ByNumber.{task_at, deadline_of}}
use Rattle.cl_runs.specs.{declared.job.Job.Job, Table.{no_job, job_at}, TaskTiming.{Timing, timing_at, IsSound}, SystemOf.system_of, Run.{Run, jobs_of, core_entries, entry_at, executed}, Work.{work_before, work_through}}
use Rattle.cl_runs.proofs.{Work.{through_place, before_past}, Executed.{executed_zero, executed_stretch, executed_more}, LegalFacts.{core_ticks, job_places, time_positive, executed_total}, ModelSystem.{timing_is, count_is, range_count_is, system_sound}}
use Rattle.cl_draw.specs.{declared.cursor.Cursor.Cursor, Inner.{TaskRuns.IsTaskRun, Cursors.{time_at, StandsAt, RunsFrom}}}

-- past the last job nothing takes time
pub no_time : (jobs : List Job) (job place : ℕ) → length jobs ≤ job → time_at jobs job place ≡ 0
unfolding no_job
no_time jobs job place past = ap (λ (j : Job). slice_index j.times place) (get_or_past jobs job no_job past)

-- the first runnable of a job has the jobs before it alone before it
before_first : (jobs : List Job) (job : ℕ) → work_before jobs job 0 ≡ sum_by (λ (j : Job). sum j.times) (take job jobs)
unfolding work_before
before_first jobs job = omega arith

-- the work through the last runnable of a job is the work before the next one
pub through_last : (jobs : List Job) (job place : ℕ) → job < length jobs → suc place ≡ length (job_at jobs job).times
    → work_through jobs job place ≡ work_before jobs (job + 1) 0
unfolding work_before
through_last jobs job place within last =
    let all : sum (take (suc place) (job_at jobs job).times) ≡ sum (job_at jobs job).times
    = ap sum (take_all (suc place) (job_at jobs job).times (omega (arith, last))) in
    let more = sum_by_more (λ (x : ℕ). x) (job_at jobs job).times place 0 (omega (arith, last)) in
    omega (arith, rw add-one at more, all, sum_by_more (λ (j : Job). sum j.times) jobs job no_job within)

module _ (model : SystemModel) (run : Run) (task : ℕ) (of : IsTaskRun model run task) where
  sound : IsSound (system_of model)
  sound = system_sound model of.valid

  is_task : task < length (system_of model).tasks
  is_task = omega (arith, of.is_task, count_is model)

  pub ticks_are : length (core_entries run (timing_at (system_of model) task).core) ≡ run.table.ticks
  ticks_are = core_ticks (system_of model) sound run of.legal task is_task

  pub places_are : (job : ℕ) → job < length (jobs_of run task) → length (job_at (jobs_of run task) job).times ≡ length (timing_at (system_of model) task).ranges
  places_are = job_places (system_of model) sound run of.legal task is_task

  pub some_time : (job place : ℕ) → job < length (jobs_of run task) → place < length (timing_at (system_of model) task).ranges
      → 1 ≤ time_at (jobs_of run task) job place
  some_time = time_positive (system_of model) sound run of.legal task is_task

  pub ranges_are : length (timing_at (system_of model) task).ranges ≡ length (task_at model task).runnables
  ranges_are = range_count_is model task of.is_task

  pub deadline_is : (timing_at (system_of model) task).deadline ≡ deadline_of model task
  deadline_is = ap (λ (timing : Timing). timing.deadline) (timing_is model task of.is_task)

  pub some_range : 0 < length (timing_at (system_of model) task).ranges
  some_range = (sound.tasks task is_task).some_runnable

  -- at the beginning of a runnable
  pub stands_at_start : (cursor : Cursor) (tick job place : ℕ) → cursor.job ≡ job → cursor.place ≡ place → cursor.left ≡ time_at (jobs_of run task) job place
      → executed (system_of model) run task tick ≡ work_before (jobs_of run task) job place
      → (job < length (jobs_of run task) → place < length (timing_at (system_of model) task).ranges) → job ≤ length (jobs_of run task)
      → StandsAt (system_of model) run task cursor tick
  stands_at_start cursor tick job place is_job is_place is_left reached known within =
      subst (λ j. StandsAt (system_of model) run task (record { job = j; place = cursor.place; left = cursor.left }) tick) (sym is_job)
      (subst (λ p. StandsAt (system_of model) run task (record { job = job; place = p; left = cursor.left }) tick) (sym is_place)
      (subst (λ l. StandsAt (system_of model) run task (record { job = job; place = place; left = l }) tick) (sym is_left)
      (record {
        work = ap (λ n. n + time_at (jobs_of run task) job place) reached;
        begun = omega arith;
        going = λ in_table. (known in_table, omega (arith, some_time job place in_table (known in_table)));
        over = λ past. no_time (jobs_of run task) job place past;
        within = within;
      })))

  pub stands_first : (cursor : Cursor) → cursor.job ≡ 0 → cursor.place ≡ 0 → cursor.left ≡ time_at (jobs_of run task) 0 0
      → StandsAt (system_of model) run task cursor 0
  stands_first cursor is_job is_place is_left =
      stands_at_start cursor 0 0 0 is_job is_place is_left (executed_zero (system_of model) run task ∙ sym (before_first (jobs_of run task) 0))
      (λ _. some_range) (omega arith)

  -- some ticks on, in the same runnable
  pub stands_on : (cursor next : Cursor) (tick ticks : ℕ) → StandsAt (system_of model) run task cursor tick → ticks < cursor.left
      → executed (system_of model) run task (tick + ticks) ≡ executed (system_of model) run task tick + ticks
      → next.job ≡ cursor.job → next.place ≡ cursor.place → next.left ≡ cursor.left - ticks
      → StandsAt (system_of model) run task next (tick + ticks)
  stands_on cursor next tick ticks stands more runs is_job is_place is_left =
      subst (λ j. StandsAt (system_of model) run task (record { job = j; place = next.place; left = next.left }) (tick + ticks)) (sym is_job)
      (subst (λ p. StandsAt (system_of model) run task (record { job = cursor.job; place = p; left = next.left }) (tick + ticks)) (sym is_place)
      (subst (λ l. StandsAt (system_of model) run task (record { job = cursor.job; place = cursor.place; left = l }) (tick + ticks)) (sym is_left)
      (record {
        work = omega (arith, stands.work, runs, more);
        begun = omega (arith, stands.begun);
        going = λ in_table. ((stands.going in_table).0, omega (arith, more));
        over = λ past. absurd (omega (arith, more, stands.over past));
        within = stands.within;
      })))

  -- at the end of the runnable
  module _ (cursor next : Cursor) (tick ticks : ℕ) (stands : StandsAt (system_of model) run task cursor tick) (whole : cursor.left ≡ ticks)
      (in_table : cursor.job < length (jobs_of run task))
      (runs : executed (system_of model) run task (tick + ticks) ≡ executed (system_of model) run task tick + ticks) where
    through : executed (system_of model) run task (tick + ticks) ≡ work_through (jobs_of run task) cursor.job cursor.place
    through = omega (arith, stands.work, runs, whole)

    pub stands_in_next_place : cursor.place + 1 < length (timing_at (system_of model) task).ranges → next.job ≡ cursor.job → next.place ≡ cursor.place + 1
        → next.left ≡ time_at (jobs_of run task) cursor.job (cursor.place + 1) → StandsAt (system_of model) run task next (tick + ticks)
    stands_in_next_place more is_job is_place is_left =
        let next_place : suc cursor.place ≡ cursor.place + 1 = omega arith in
        stands_at_start next (tick + ticks) cursor.job (cursor.place + 1) is_job is_place is_left
        (through ∙ through_place (jobs_of run task) cursor.job cursor.place (omega (arith, more, places_are cursor.job in_table))
        ∙ ap (work_before (jobs_of run task) cursor.job) next_place)
        (λ _. more) (omega (arith, in_table))

    pub stands_in_next_job : length (timing_at (system_of model) task).ranges ≤ cursor.place + 1 → next.job ≡ cursor.job + 1 → next.place ≡ 0
        → next.left ≡ time_at (jobs_of run task) (cursor.job + 1) 0 → StandsAt (system_of model) run task next (tick + ticks)
    stands_in_next_job last is_job is_place is_left =
        let is_last : suc cursor.place ≡ length (job_at (jobs_of run task) cursor.job).times
        = omega (arith, last, (stands.going in_table).0, places_are cursor.job in_table) in
        stands_at_start next (tick + ticks) (cursor.job + 1) 0 is_job is_place is_left
        (through ∙ through_last (jobs_of run task) cursor.job cursor.place in_table is_last)
        (λ _. some_range) (omega (arith, in_table))

  -- where the task runs, it has work left
  pub going_where_it_runs : (cursor : Cursor) (tick : ℕ) → StandsAt (system_of model) run task cursor tick → tick < run.table.ticks
      → entry_at run (timing_at (system_of model) task).core tick ≡ Some task → cursor.job < length (jobs_of run task)
  going_where_it_runs cursor tick stands below runs = elim (cases_lt cursor.job (length (jobs_of run task))) [
    | inl before ↦ before
    | inr past ↦ absurd (omega (
      arith,
      stands.work,
      stands.over past,
      before_past (jobs_of run task) cursor.job cursor.place past,
      no_time (jobs_of run task) cursor.job cursor.place past,
      executed_more (system_of model) run task tick (omega (arith, below, ticks_are)) runs,
      executed_total (system_of model) sound run of.legal task is_task (suc tick),
    ))
  ]

  -- over some ticks in all of which the task runs
  pub runs_over : (from to : ℕ) → from ≤ to → to ≤ run.table.ticks → RunsFrom (system_of model) run task from to
      → executed (system_of model) run task (from + (to - from)) ≡ executed (system_of model) run task from + (to - from)
  runs_over from to ordered within runs =
      let same : from + (to - from) ≡ to = omega (arith, ordered) in
      ap (executed (system_of model) run task) same ∙ executed_stretch (system_of model) run task from to ordered (omega (arith, within, ticks_are)) runs
