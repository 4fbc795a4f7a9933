-- What is said of jobs by a list of their finishes is what the run shows.
use Rattle.std.proofs.Common.{◌≡◌, ℕ, ◌-◌, ◌<◌, ◌≤◌, inl, inr, true, Option, Some, None, List, length, ap, subst, arith}
use Rattle.std.specs.Prelude.{nat_le, nat_lt}
use Rattle.std.proofs.lemmas.Bool.{cases_lt, and_parts, and_from, leb-true, ltb-true, le-leb, lt-ltb}
use Rattle.std.proofs.lemmas.List.{get_or_past}
use Rattle.cl_runs.specs.{declared.job.Job.Job, TaskTiming.{System, timing_at}, Run.{Run, jobs_of}, Moments.Finishes}
use Rattle.cl_runs.proofs.StartsFinishes.{finishes_once}
use Rattle.cl_check.specs.{declared.job_ends.End.TheVariants.Finish, JobMoments.{IsMomentOf, AreEndsOfJobs}}
use Rattle.cl_observe.specs.{declared.{values.Spread.Spread, task_shown.ShownTask.ShownTask}, Values.{CountsBelow, IsGreatestResponseOf, IsSpreadOf}, Shown.{job_due, MissesItsDeadline, HasResponseIn, HasJitterIn, HasTimeIn, IsShownTask, IsShownTime}, Inner.JobLists.finish_at}
use Rattle.cl_observe.specs.Inner.JobLists.{is_unfinished, IsJobUnfinished, HasListedResponse, HasListedJitter, HasListedTime}
use Rattle.cl_observe.proofs.OneValue.{counts_as, greatest_as, spread_as}

module _ (system : System) (run : Run) (task place : ℕ) where
  -- ---- one entry

  same_finish : (job finish : ℕ) (found : Option ℕ) → Finishes system run task job place finish → IsMomentOf (Finishes system run task job place) found
      → found ≡ Some finish
  same_finish job finish None is none = absurd (none finish is)
  same_finish job finish (Some at) is also = ap Some (finishes_once system run task job place at finish also is)

  due_passed : (job due : ℕ) (found : Option ℕ) → IsMomentOf (Finishes system run task job place) found → is_unfinished due run.table.ticks found ≡ true
      → (due ≤ run.table.ticks) × ((finish : ℕ) → Finishes system run task job place finish → due < finish)
  due_passed job due None none so = (leb-true due run.table.ticks so, λ finish is. absurd (none finish is))
  due_passed job due (Some at) also so =
      let (lasts, later) = and_parts (nat_le due run.table.ticks) (nat_lt due at) so in
      (leb-true due run.table.ticks lasts, λ finish is. omega (arith, finishes_once system run task job place at finish also is, ltb-true due at later))

  due_missed : (job due : ℕ) (found : Option ℕ) → IsMomentOf (Finishes system run task job place) found → due ≤ run.table.ticks
      → ((finish : ℕ) → Finishes system run task job place finish → due < finish) → is_unfinished due run.table.ticks found ≡ true
  due_missed job due None none lasts later = le-leb due run.table.ticks lasts
  due_missed job due (Some at) also lasts later = and_from (nat_le due run.table.ticks) (nat_lt due at) (le-leb due run.table.ticks lasts) (lt-ltb due at (later at also))

  module _ (finishes : List (Option ℕ)) (ends : AreEndsOfJobs Finish system run task place finishes) where
    entry : (job : ℕ) → job < length (jobs_of run task) → IsMomentOf (Finishes system run task job place) (finish_at finishes job)
    entry job within = ends.each job (omega (arith, within, ends.one_a_job))

    -- ---- all entries

    pub finishes_then : (job finish : ℕ) → finish_at finishes job ≡ Some finish → Finishes system run task job place finish
    finishes_then job finish is = elim (cases_lt job (length finishes)) [
      | inl within ↦ subst (IsMomentOf (Finishes system run task job place)) is (ends.each job within)
      | inr past ↦ let none : finish_at finishes job ≡ None = get_or_past finishes job None past in absurd (cc (is, none))
    ]

    pub then_finishes : (job finish : ℕ) → Finishes system run task job place finish → finish_at finishes job ≡ Some finish
    then_finishes job finish is = same_finish job finish (finish_at finishes job) is (entry job is.in_table)

    -- the times of a runnable
    pub times_shown : (jobs : List Job) (time : Option Spread) → jobs ≡ jobs_of run task → IsSpreadOf (HasListedTime jobs finishes place) time
        → IsShownTime system run task place time
    times_shown jobs time same is = spread_as (HasListedTime (jobs_of run task) finishes place) (HasTimeIn system run task place)
        (λ job number has. record { finish = has.finish; finishes = finishes_then job has.finish has.finishes_then; time_is = has.time_is })
        (λ job number has. record { finish = has.finish; finishes_then = then_finishes job has.finish has.finishes; time_is = has.time_is })
        time (subst (λ (all : List Job). IsSpreadOf (HasListedTime all finishes place) time) same is)

module _ (system : System) (run : Run) (task : ℕ) (finishes : List (Option ℕ))
    (ends : AreEndsOfJobs Finish system run task (length (timing_at system task).ranges - 1) finishes) where
  abbrev last : ℕ
  last = length (timing_at system task).ranges - 1

  misses_shown : (deadline ticks count : ℕ) → deadline ≡ (timing_at system task).deadline → ticks ≡ run.table.ticks
      → CountsBelow (IsJobUnfinished (jobs_of run task) finishes deadline ticks) (length (jobs_of run task)) count
      → CountsBelow (MissesItsDeadline system run task) (length (jobs_of run task)) count
  misses_shown deadline ticks count given end counts =
      counts_as (IsJobUnfinished (jobs_of run task) finishes (timing_at system task).deadline run.table.ticks) (MissesItsDeadline system run task)
      (length (jobs_of run task))
      (λ job within so. let (lasts, later) = due_passed system run task last job (job_due system run task job) (finish_at finishes job) (entry system run task last finishes ends job within) so in
      record { lasts = lasts; unfinished = later })
      (λ job within is. due_missed system run task last job (job_due system run task job) (finish_at finishes job) (entry system run task last finishes ends job within) is.lasts is.unfinished)
      count
      (subst (λ d. CountsBelow (IsJobUnfinished (jobs_of run task) finishes d run.table.ticks) (length (jobs_of run task)) count) given
      (subst (λ n. CountsBelow (IsJobUnfinished (jobs_of run task) finishes deadline n) (length (jobs_of run task)) count) end counts))

  -- what is found of the jobs of a task
  pub task_shown : (jobs : List Job) (deadline ticks : ℕ) (shown : ShownTask) → jobs ≡ jobs_of run task → deadline ≡ (timing_at system task).deadline
      → ticks ≡ run.table.ticks → CountsBelow (IsJobUnfinished jobs finishes deadline ticks) (length jobs) shown.misses
      → IsGreatestResponseOf (HasListedResponse jobs finishes) shown.response → IsSpreadOf (HasListedJitter jobs) shown.jitter
      → IsShownTask system run task shown
  task_shown jobs deadline ticks shown same given end misses response jitter = record {
    misses = misses_shown deadline ticks shown.misses given end
        (subst (λ (all : List Job). CountsBelow (IsJobUnfinished all finishes deadline ticks) (length all) shown.misses) same misses);
    response = greatest_as (HasListedResponse (jobs_of run task) finishes) (HasResponseIn system run task)
        (λ job number has. record {
          finish = has.finish;
          finishes = finishes_then system run task last finishes ends job has.finish has.finishes_then;
          response_is = has.response_is;
        })
        (λ job number has. record {
          finish = has.finish;
          finishes_then = then_finishes system run task last finishes ends job has.finish has.finishes;
          response_is = has.response_is;
        })
        shown.response (subst (λ (all : List Job). IsGreatestResponseOf (HasListedResponse all finishes) shown.response) same response);
    jitter = spread_as (HasListedJitter (jobs_of run task)) (HasJitterIn run task)
        (λ job number has. record { in_table = has.in_table; jitter_is = has.jitter_is })
        (λ job number has. record { in_table = has.in_table; jitter_is = has.jitter_is })
        shown.jitter (subst (λ (all : List Job). IsSpreadOf (HasListedJitter all) shown.jitter) same jitter);
  }
