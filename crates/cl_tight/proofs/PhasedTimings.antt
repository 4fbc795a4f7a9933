-- The timing by phases of a group whose task isn't late: it always holds, and stays within the timings by the responses of
-- the task, by phases and by the report.
use Rattle.std.proofs.Common.{◌≡◌, ℕ, false, refl, ◌∙◌, arith}
use Rattle.cl_model.specs.{declared.{group.Group.Group, model.SystemModel.SystemModel}, Groups.IsGroupOf, Validity.IsValid}
use Rattle.cl_runs.specs.{TaskTiming.{System, IsSound}, SystemOf.system_of}
use Rattle.cl_runs.proofs.ModelSystem.{system_sound}
use Rattle.cl_lead.proofs.LeadModels.{reads_after_lead_of_model}
use Rattle.cl_hop.specs.{Hops.group_timing, declared.group_timing.GroupTiming.GroupTiming, NoGreater.StaysWithin, Timings.{IsGroupOfTask, IsTimingOf, AlwaysKeeps}}
use Rattle.cl_hop.proofs.{ModelGroups.group_of_system, NoGreater.stays_within}
use Rattle.cl_resp.specs.ByPhase.{IsSettledByPhase}
use Rattle.cl_bound.specs.{Answers.{answers_of, answer_at, is_late, response_in}, Bounds.settled_timing}
use Rattle.cl_bound.proofs.SettledTasks.{settled_task}
use Rattle.cl_tight.specs.{TightAnswers.{tight_answers_of, tight_response}, TightTimings.tight_timing}
use Rattle.cl_tight.proofs.{EarliestReads.read_no_earlier, LatestWrites.{write_within, written_by}, TightTasks.{tight_task, tight_of_settled}, TightTimings.{holds_execution, by_deadline}}

-- it is of the group
pub tight_timing_is : (system : System) (group : Group) → IsTimingOf system group (tight_timing system group)
unfolding tight_timing
tight_timing_is system group = record {
  task = refl;
  core = refl;
  priority = refl;
  is_timed = refl;
  jitter = refl;
  distance = refl;
}

-- a timing that stays within one that stays within another stays within that
stays_through : (one middle other : GroupTiming) → StaysWithin one middle → StaysWithin middle other → StaysWithin one other
stays_through one middle other first second = record {
  task = first.task ∙ second.task;
  core = first.core ∙ second.core;
  priority = first.priority ∙ second.priority;
  is_timed = first.is_timed ∙ second.is_timed;
  jitter = first.jitter ∙ second.jitter;
  distance = first.distance ∙ second.distance;
  read = omega (arith, first.read, second.read);
  write = omega (arith, first.write, second.write);
}

module _ (system : System) (sound : IsSound system) (group : Group) (is : IsGroupOfTask system group) where
  -- it stays within the timing by the response by phases
  phased_stays : IsSettledByPhase system group.task (tight_response system group.task)
      → StaysWithin (tight_timing system group) (group_timing system (tight_response system) group)
  unfolding tight_timing group_timing
  phased_stays settled =
      let response : ℕ = tight_response system group.task in
      record {
        task = refl;
        core = refl;
        priority = refl;
        is_timed = refl;
        jitter = refl;
        distance = refl;
        read = read_no_earlier system sound group.task response is.is_task (holds_execution system sound group.task response settled)
            (by_deadline system sound group.task response settled) group.first (omega (arith, is.ordered, is.is_runnable));
        write = write_within system sound (tight_response system) group is settled;
      }

  pub stays_by_phase : is_late (answer_at (tight_answers_of system) group.task) ≡ false
      → StaysWithin (tight_timing system group) (group_timing system (tight_response system) group)
  stays_by_phase timely = phased_stays (tight_task system group.task is.is_task timely)

  -- and so within that by the response of the report, which is no earlier
  pub stays_by_report : is_late (answer_at (answers_of system) group.task) ≡ false → StaysWithin (tight_timing system group) (settled_timing system group)
  stays_by_report timely =
      let response_of : ℕ → ℕ = λ task. response_in (answer_at (answers_of system) task) in
      let (settled, no_later) = tight_of_settled system group.task is.is_task sound (response_of group.task)
      (settled_task system group.task is.is_task timely) in
      stays_through (tight_timing system group) (group_timing system (tight_response system) group) (settled_timing system group)
      (phased_stays settled) (stays_within system (tight_response system) response_of group no_later)

-- it always holds
pub tight_keeps : (model : SystemModel) → IsValid model → (group : Group) → IsGroupOf model group
    → is_late (answer_at (tight_answers_of (system_of model)) group.task) ≡ false
    → AlwaysKeeps (system_of model) group (tight_timing (system_of model) group)
unfolding tight_timing
tight_keeps model valid group is timely =
    let system = system_of model in
    let there = group_of_system model group is in
    record {
      is_group = there;
      of_group = tight_timing_is system group;
      always = λ run legal. record {
        reads = λ job tick reads. reads_after_lead_of_model model valid run legal group.task job group.first tick reads;
        writes = written_by system (system_sound model valid) (tight_response system) group there
            (tight_task system group.task there.is_task timely) run legal;
      };
    }
