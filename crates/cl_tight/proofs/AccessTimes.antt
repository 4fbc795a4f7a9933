-- When groups read and write by the access of their tasks: the job of an implicit or a timed task reads for all its
-- runnables at once, and writes by its own response or by its deadline.
use Rattle.std.proofs.Common.{◌≡◌, ℕ, ◌<◌, Bool, length, refl, ap, ◌∙◌}
use Rattle.cl_model.specs.{declared.{group.Group.Group, model.SystemModel.SystemModel, task.AccessKind.{AccessKind, TheVariants.{Implicit, Timed}}}, ByNumber.{task_at, deadline_of}}
use Rattle.cl_runs.specs.{SystemOf.system_of, TaskTiming.{Timing, System, timing_at}}
use Rattle.cl_runs.proofs.ModelSystem.{timing_is}
use Rattle.cl_stim.specs.Phase.{phase_of}
use Rattle.cl_comm.specs.Windows.{spot_at}
use Rattle.cl_lead.specs.{Ahead.least_lead, Leads.{before_read, ahead_of, lead_if, lead_with, lead_at}}
use Rattle.cl_tight.specs.{TightAnswers.tight_response, TightTimings.{part_response, write_by, latest_write}}

-- ---- reads

module _ (system : System) (task place other : ℕ) where
  -- runnables have as much before their reads
  abbrev HaveAlike : Type 0
  HaveAlike = before_read (timing_at system task).access (spot_at (timing_at system task) place).before
      ≡ before_read (timing_at system task).access (spot_at (timing_at system task) other).before

  -- then they have the same lead, whichever tasks are in phase
  leads_with : (in_phase : ℕ → Bool) (cycle : ℕ) → HaveAlike → lead_with system in_phase cycle task place ≡ lead_with system in_phase cycle task other
  unfolding lead_with
  leads_with in_phase cycle alike =
      ap (λ before. lead_if (timing_at system task).access (phase_of (timing_at system task).pattern) before
      (least_lead (ahead_of system in_phase cycle task before))) alike

  leads_alike : HaveAlike → lead_at system task place ≡ lead_at system task other
  unfolding lead_at
  leads_alike alike = leads_with _ _ alike

  -- so have all of an implicit task, and all of a timed one
  pub implicit_alike : (timing_at system task).access ≡ Implicit → lead_at system task place ≡ lead_at system task other
  implicit_alike is = leads_alike (rw is refl)

  pub timed_alike : (timing_at system task).access ≡ Timed → lead_at system task place ≡ lead_at system task other
  timed_alike is = leads_alike (rw is refl)

-- ---- in the system of a model

module _ (model : SystemModel) (group : Group) (known : group.task < length model.tasks) (access : AccessKind) (is : (task_at model group.task).access ≡ access) where
  -- the access of a group's task
  pub access_is : (timing_at (system_of model) group.task).access ≡ access
  access_is = ap (λ (t : Timing). t.access) (timing_is model group.task known) ∙ is

  -- and its latest write by it
  pub write_is : latest_write (system_of model) group
      ≡ write_by access (part_response (system_of model) group.task group.last) (tight_response (system_of model) group.task) (deadline_of model group.task)
  write_is =
      let system = system_of model in
      let part : ℕ = part_response system group.task group.last in
      let response : ℕ = tight_response system group.task in
      ap (λ kind. write_by kind part response (timing_at system group.task).deadline) access_is
      ∙ ap (λ deadline. write_by access part response deadline) (ap (λ (t : Timing). t.deadline) (timing_is model group.task known))
