-- The trace of a legal run is read as that run.
use Rattle.std.proofs.Common.{◌≡◌, ℕ, zero, suc, ◌<◌, ◌≤◌, inl, inr, List, [], ◌∷◌, length, get_or, map, refl, ap, subst, arith}
use Rattle.std.specs.List.{All, AllZip}
use Rattle.std.proofs.lemmas.Bool.{cases_lt}
use Rattle.std.proofs.lemmas.List.{get_or_default}
use Rattle.std.proofs.lemmas.List.Elements.{All-nil, All-cons, All-head, All-tail}
use Rattle.cl_model.specs.{declared.{limits.TheConstants.MOST_TICKS, model.SystemModel.SystemModel, stimulus.StimulusKind.{StimulusKind, TheVariants.{Periodic, Sporadic, Burst}}, task.RunnableDef.RunnableDef}, ByNumber.{task_at, stimulus_of}, Ranges.{IsKindInRange, IsRunnableInRange}}
use Rattle.cl_model.specs.{Timing.greatest_jitter, Validity.IsValid}
use Rattle.cl_model.proofs.ValidTasks.{kind_in_range, runnables_in_range}
use Rattle.cl_runs.specs.{declared.job.Job.Job, Table.{no_job, job_at, LiesIn}, TaskTiming.{Timing, timing_at}, Run.{Run, jobs_of}, Legal.IsLegal, SystemOf.{system_of, range_of}}
use Rattle.cl_runs.proofs.{ArrivalFacts.{arrives_below, released_within}, ModelSystem.{count_is, timing_is}}
use Rattle.cl_trace.specs.{declared.limits.TheConstants.{MOST_TRACE_TICKS, MOST_TRACE_NUMBER}, Trace.spelled, Rules.{IsJobInRange, IsWithinLimits, IsTraceOf}}

pub jitter_small : (kind : StimulusKind) → IsKindInRange kind → greatest_jitter kind ≤ MOST_TICKS
jitter_small (Periodic period offset jitter) is = is.2
jitter_small (Sporadic least greatest) is = omega arith
jitter_small (Burst period offset count distance) is = omega arith

times_small : (runnables : List RunnableDef) (times : List ℕ) → All IsRunnableInRange runnables → AllZip LiesIn (map range_of runnables) times
    → All (λ time. time ≤ MOST_TRACE_NUMBER) times
times_small [] [] ranges zip = All-nil (λ time. time ≤ MOST_TRACE_NUMBER)
times_small [] (time ∷ times) ranges zip = absurd zip
times_small (r ∷ rs) [] ranges zip = All-nil (λ time. time ≤ MOST_TRACE_NUMBER)
times_small (r ∷ rs) (time ∷ times) ranges zip =
    let greatest = (All-head IsRunnableInRange r rs ranges).greatest in
    let lies = zip.0 in
    All-cons (λ time. time ≤ MOST_TRACE_NUMBER) time times (omega (arith, greatest.1, lies.1)) (times_small rs times (All-tail IsRunnableInRange r rs ranges) zip.1)

no_jobs_past : (lists : List (List Job)) (n : ℕ) → length lists ≤ n → length (get_or lists n []) ≡ 0
no_jobs_past [] n past = refl
no_jobs_past (l ∷ ls) zero past = absurd (omega arith)
no_jobs_past (l ∷ ls) (suc n) past = no_jobs_past ls n (omega arith)

module _ (model : SystemModel) (valid : IsValid model) (run : Run) (legal : IsLegal (system_of model) run) (few : run.table.ticks ≤ MOST_TRACE_TICKS) where
  job_in_range : (task job : ℕ) → task < length model.tasks → job < length (jobs_of run task) → IsJobInRange (job_at (jobs_of run task) job)
  job_in_range task job lt below =
      let is_task : task < length (system_of model).tasks = omega (arith, lt, count_is model) in
      let lawful = legal.lawful.jobs task is_task in
      let timing = timing_is model task lt in
      let pattern : (timing_at (system_of model) task).pattern ≡ stimulus_of model task = ap (λ (t : Timing). t.pattern) timing in
      let arrival = arrives_below (timing_at (system_of model) task).pattern run.table.ticks (jobs_of run task) lawful.arrivals job below in
      let release = released_within (timing_at (system_of model) task).pattern run.table.ticks (jobs_of run task) lawful.arrivals job below in
      let jitter = jitter_small (stimulus_of model task) (kind_in_range model valid task lt) in
      let ranges : (timing_at (system_of model) task).ranges ≡ map range_of (task_at model task).runnables = ap (λ (t : Timing). t.ranges) timing in
      record {
        arrival = omega (arith, arrival, few);
        release = omega (arith, arrival, release, few, jitter, ap greatest_jitter pattern);
        times = times_small (task_at model task).runnables (job_at (jobs_of run task) job).times (runnables_in_range model valid task lt)
            (subst (λ rs. AllZip LiesIn rs (job_at (jobs_of run task) job).times) ranges (lawful.times job no_job below));
      }

  pub legal_within : IsWithinLimits run
  legal_within = record { ticks = few; jobs = λ task job d lt. in_range task job d lt }
    where
      in_range : (task job : ℕ) (d : Job) → job < length (jobs_of run task) → IsJobInRange (get_or (jobs_of run task) job d)
      in_range task job d lt = elim (cases_lt task (length model.tasks)) [
        | inl below ↦ subst IsJobInRange (get_or_default (jobs_of run task) job no_job d lt) (job_in_range task job below lt)
        | inr past ↦ absurd (omega (arith, lt, no_jobs_past run.table.jobs task (omega (arith, past, legal.in_form.tasks, count_is model))))
      ]

  pub legal_trace : IsTraceOf model (spelled model run) run
  legal_trace = record { in_form = legal.in_form; within = legal_within; spelled = refl }
