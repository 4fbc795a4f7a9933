-- Where the least times before a runnable are no more than the deadline, the lead is no less than
-- those before the read, and no more than the deadline.
use Rattle.std.proofs.Common.{ℕ, ◌≤◌, inl, inr, Bool, Option, Some, None, arith}
use Rattle.cl_model.specs.declared.task.AccessKind.{AccessKind, TheVariants.{Explicit, Implicit, Timed}}
use Rattle.cl_runs.specs.TaskTiming.{System, timing_at}
use Rattle.cl_stim.specs.{declared.phase.Phase.Phase, Phase.phase_of}
use Rattle.cl_comm.specs.Windows.{spot_at}
use Rattle.cl_lead.specs.{Ahead.{Ahead, least_lead}, Leads.{ahead_of, before_read, lead_if, lead_with}}
use Rattle.cl_lead.proofs.LeastLeads.{lead_there, lead_within}

least_from : (ahead : Ahead) → ahead.before ≤ ahead.deadline → ahead.before ≤ least_lead ahead
least_from ahead h = elim (lead_there ahead) [
  | inl deadline ↦ omega (arith, h, deadline)
  | inr there ↦ there.0
]

before_within : (access : AccessKind) (before deadline : ℕ) → before ≤ deadline → before_read access before ≤ deadline
before_within Explicit before deadline h = h
before_within Implicit before deadline h = omega arith
before_within Timed before deadline h = omega arith

chosen : (access : AccessKind) (phase : Option Phase) (before lead : ℕ) → before ≤ lead → before ≤ lead_if access phase before lead
chosen Explicit (Some phase) before lead h = h
chosen Implicit (Some phase) before lead h = h
chosen Timed (Some phase) before lead h = omega arith
chosen Explicit None before lead h = omega arith
chosen Implicit None before lead h = omega arith
chosen Timed None before lead h = omega arith

pub lead_holds : (system : System) (in_phase : ℕ → Bool) (cycle i p : ℕ)
    → (spot_at (timing_at system i) p).before ≤ (timing_at system i).deadline
    → before_read (timing_at system i).access (spot_at (timing_at system i) p).before ≤ lead_with system in_phase cycle i p
unfolding lead_with
lead_holds system in_phase cycle i p h =
    let before : ℕ = before_read (timing_at system i).access (spot_at (timing_at system i) p).before in
    chosen (timing_at system i).access (phase_of (timing_at system i).pattern) before
    (least_lead (ahead_of system in_phase cycle i before))
    (least_from (ahead_of system in_phase cycle i before)
    (before_within (timing_at system i).access (spot_at (timing_at system i) p).before (timing_at system i).deadline h))

chosen_within : (access : AccessKind) (phase : Option Phase) (before lead deadline : ℕ) → before ≤ deadline → lead ≤ deadline
    → lead_if access phase before lead ≤ deadline
chosen_within Explicit (Some phase) before lead deadline h k = k
chosen_within Implicit (Some phase) before lead deadline h k = k
chosen_within Timed (Some phase) before lead deadline h k = h
chosen_within Explicit None before lead deadline h k = h
chosen_within Implicit None before lead deadline h k = h
chosen_within Timed None before lead deadline h k = h

pub lead_by_deadline : (system : System) (in_phase : ℕ → Bool) (cycle i p : ℕ)
    → (spot_at (timing_at system i) p).before ≤ (timing_at system i).deadline
    → lead_with system in_phase cycle i p ≤ (timing_at system i).deadline
unfolding lead_with
lead_by_deadline system in_phase cycle i p h =
    let before : ℕ = before_read (timing_at system i).access (spot_at (timing_at system i) p).before in
    chosen_within (timing_at system i).access (phase_of (timing_at system i).pattern) before
    (least_lead (ahead_of system in_phase cycle i before)) (timing_at system i).deadline
    (before_within (timing_at system i).access (spot_at (timing_at system i) p).before (timing_at system i).deadline h)
    (lead_within (ahead_of system in_phase cycle i before))
