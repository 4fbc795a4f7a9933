-- When the jobs that carry a reaction read and write.
use Rattle.std.proofs.Common.{◌≡◌, ℕ, ◌+◌, ◌-◌, ◌<◌, ◌≤◌, Some, List, length, get_or, sym, ap, subst, ◌∙◌, arith}
use Rattle.std.proofs.lemmas.List.{get_or_default}
use Rattle.cl_model.specs.{declared.{model.SystemModel.SystemModel, group.Group.Group, task.{TaskDef.TaskDef, AccessKind.AccessKind}}, ByNumber.{task_at, deadline_of}, Validity.IsValid}
use Rattle.cl_runs.specs.{declared.job.Job.Job, Table.{no_job, job_at}, TaskTiming.{System, Timing, timing_at}, SystemOf.system_of, Run.{Run, jobs_of}, Moments.{Starts, WritesAtDeadline, ReadsBy, WritesBy, Reads, Writes}, RunChains.run_moments, Legal.IsLegal}
use Rattle.cl_runs.proofs.{ModelSystem.{timing_is, range_count_is, system_sound}, MomentFacts.has_read}
use Rattle.cl_check.specs.{declared.job_moments.Moment.Moment, JobMoments.{IsMomentOf, no_moment, AreMoments}}
use Rattle.cl_draw.specs.{declared.stops.Stop.Stop, Reactions.IsStop}

module _ (system : System) (run : Run) (task place : ℕ) (moments slice : List Moment) (are : AreMoments system run task place moments) (same : slice ≡ moments)
    (job : ℕ) (in_table : job < length (jobs_of run task)) (d : Moment) (t : ℕ) where
  found : get_or slice job d ≡ get_or moments job no_moment
  found = ap (λ (ms : List Moment). get_or ms job d) same ∙ get_or_default moments job d no_moment (omega (arith, in_table, are.one_a_job))

  pub start_found : (get_or slice job d).start ≡ Some t → Starts system run task job place t
  start_found is = subst (IsMomentOf (Starts system run task job place)) (sym (ap (λ (m : Moment). m.start) found) ∙ is)
      (are.starts job (omega (arith, in_table, are.one_a_job)))

-- a job of the table
pub job_found : (jobs slice : List Job) → slice ≡ jobs → (job : ℕ) → job < length jobs → (d : Job) → get_or slice job d ≡ job_at jobs job
job_found jobs slice same job in_table d = ap (λ (js : List Job). get_or js job d) same ∙ get_or_default jobs job d no_job in_table

-- by the access kind of the task
module _ (model : SystemModel) (run : Run) (task : ℕ) (known : task < length model.tasks) (def : TaskDef) (is_def : def ≡ task_at model task)
    (kind : AccessKind) (is_kind : def.access ≡ kind) (job place : ℕ) where
  kind_is : (timing_at (system_of model) task).access ≡ kind
  kind_is = ap (λ (t : Timing). t.access) (timing_is model task known) ∙ ap (λ (d : TaskDef). d.access) (sym is_def) ∙ is_kind

  pub read_by : (t : ℕ) → Reads (system_of model) run task job place t → ReadsBy kind (system_of model) run task job place t
  read_by t reads = subst (λ (a : AccessKind). ReadsBy a (system_of model) run task job place t) kind_is reads.moment

  pub reads_by : (t s : ℕ) → Reads (system_of model) run task job place t → ReadsBy kind (system_of model) run task job place s
      → Reads (system_of model) run task job place s
  reads_by t s some by = record {
    in_table = some.in_table;
    is_runnable = some.is_runnable;
    moment = subst (λ (a : AccessKind). ReadsBy a (system_of model) run task job place s) (sym kind_is) by;
  }

  pub write_by : (t : ℕ) → Writes (system_of model) run task job place t → WritesBy kind (system_of model) run task job place t
  write_by t writes = subst (λ (a : AccessKind). WritesBy a (system_of model) run task job place t) kind_is writes.moment

  pub writes_by : (t s : ℕ) → Writes (system_of model) run task job place t → WritesBy kind (system_of model) run task job place s
      → Writes (system_of model) run task job place s
  writes_by t s some by = record {
    in_table = some.in_table;
    is_runnable = some.is_runnable;
    moment = subst (λ (a : AccessKind). WritesBy a (system_of model) run task job place s) (sym kind_is) by;
  }

  -- the last runnable of the task
  pub last_place : (n : ℕ) → n ≡ length def.runnables → n - 1 ≡ length (timing_at (system_of model) task).ranges - 1
  last_place n is = omega (arith, is, ap (λ (d : TaskDef). length d.runnables) is_def, range_count_is model task known)

-- a timed job writes at its deadline
pub write_at_deadline : (model : SystemModel) (run : Run) (task : ℕ) → task < length model.tasks → (job t : ℕ) → WritesAtDeadline (system_of model) run task job t
    → t ≡ (job_at (jobs_of run task) job).arrival + deadline_of model task
write_at_deadline model run task known job t writes = writes.at_deadline
    ∙ ap (λ (timing : Timing). (job_at (jobs_of run task) job).arrival + timing.deadline) (timing_is model task known)

-- a job that has written has read
pub reads_somewhere : (model : SystemModel) → IsValid model → (run : Run) → IsLegal (system_of model) run → (group : Group) → group.first ≤ group.last → (job : ℕ)
    → (t : ℕ) × Writes (system_of model) run group.task job group.last t → (t : ℕ) × Reads (system_of model) run group.task job group.first t
reads_somewhere model valid run legal group ordered job writes =
    let found = has_read (system_of model) (system_sound model valid) run legal group.task job group.first group.last writes.0 ordered writes.1 in
    (found.0, found.2)

pub is_stop : (model : SystemModel) (run : Run) (group : Group) (job : ℕ) (stop : Stop) → stop.task ≡ group.task → stop.job ≡ job
    → Reads (system_of model) run group.task job group.first stop.read → Writes (system_of model) run group.task job group.last stop.write
    → IsStop (run_moments (system_of model) run) group job stop
unfolding run_moments
is_stop model run group job stop task job_is reads writes = record { task = task; job_is = job_is; reads = reads; writes = writes }
