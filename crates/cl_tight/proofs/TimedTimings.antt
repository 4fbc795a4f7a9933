-- By phases, as by anything else, a timed group reads at its arrival and writes at its deadline.
use Rattle.std.proofs.Common.{◌≡◌, ℕ, Bool, true, Option, Some, None, refl}
use Rattle.cl_model.specs.{declared.{group.Group.Group, task.AccessKind.{AccessKind, TheVariants.{Explicit, Implicit, Timed}}}, Kinds.is_timed}
use Rattle.cl_runs.specs.TaskTiming.{System, timing_at}
use Rattle.cl_stim.specs.{declared.phase.Phase.Phase, Phase.phase_of}
use Rattle.cl_comm.specs.Windows.{spot_at}
use Rattle.cl_lead.specs.{Ahead.least_lead, Leads.{ahead_of, before_read, lead_if, lead_with, lead_at}}
use Rattle.cl_tight.specs.{TightAnswers.tight_response, TightTimings.{part_response, write_by, tight_timing}, ExactBounds.IsTimedTiming}
use Rattle.cl_tight.proofs.PhasedTimings.{tight_timing_is}

no_lead : (access : AccessKind) (phase : Option Phase) (before lead : ℕ) → is_timed access ≡ true
    → lead_if access phase (before_read access before) lead ≡ 0
no_lead Timed (Some phase) before lead passes = refl
no_lead Timed None before lead passes = refl
no_lead Explicit phase before lead passes = absurd cc
no_lead Implicit phase before lead passes = absurd cc

at_deadline : (access : AccessKind) (part response deadline : ℕ) → is_timed access ≡ true → write_by access part response deadline ≡ deadline
at_deadline Timed part response deadline passes = refl
at_deadline Explicit part response deadline passes = absurd cc
at_deadline Implicit part response deadline passes = absurd cc

-- whichever tasks are in phase, a timed runnable reads as its job arrives
none_ahead : (system : System) (in_phase : ℕ → Bool) (cycle task place : ℕ) → is_timed (timing_at system task).access ≡ true
    → lead_with system in_phase cycle task place ≡ 0
unfolding lead_with
none_ahead system in_phase cycle task place =
    let timing = timing_at system task in
    let before : ℕ = (spot_at timing place).before in
    no_lead timing.access (phase_of timing.pattern) before (least_lead (ahead_of system in_phase cycle task (before_read timing.access before)))

module _ (system : System) (group : Group) (timed : is_timed (timing_at system group.task).access ≡ true) where
  reads_at_arrival : lead_at system group.task group.first ≡ 0
  unfolding lead_at
  reads_at_arrival = none_ahead system _ _ group.task group.first timed

  pub timed_by_phases : IsTimedTiming system group (tight_timing system group)
  unfolding tight_timing
  timed_by_phases = record {
    of_group = tight_timing_is system group;
    read = reads_at_arrival;
    write = at_deadline (timing_at system group.task).access (part_response system group.task group.last) (tight_response system group.task)
        (timing_at system group.task).deadline timed;
  }
