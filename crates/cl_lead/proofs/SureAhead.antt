-- What the code puts together has the lead of what runs ahead.
use Rattle.std.proofs.Common.{◌≡◌, ℕ, ◌<◌, inl, inr, Bool, true, false, true≢false, Option, Some, None, unwrap_or, length, refl, sym, ap, ◌∙◌, arith}
use Rattle.cl_model.specs.{declared.{model.SystemModel.SystemModel, task.AccessKind.{AccessKind, TheVariants.{Explicit, Implicit, Timed}}}, Kinds.is_timed, ByNumber.{task_at, stimulus_of, deadline_of}}
use Rattle.cl_runs.specs.{TaskTiming.{Timing, timing_at}, SystemOf.system_of}
use Rattle.cl_runs.proofs.ModelSystem.{timing_is}
use Rattle.cl_stim.specs.{declared.phase.Phase.Phase, Phase.{IsPhase, phase_of}}
use Rattle.cl_comm.specs.Windows.{spot_at}
use Rattle.cl_cycle.specs.{Counts.{arrivals_of, each_moment}, Cycles.{is_one_of, in_phase_above, cycle_of}}
use Rattle.cl_lead.specs.{Ahead.{Ahead, least_lead, MayLead, IsLead}, Leads.{work_above, ahead_of, before_read, lead_if, lead_with, lead_at}}
use Rattle.cl_lead.proofs.LeastLeads.{least_is_lead, lead_is_least}

abbrev ahead : (arrivals : Phase) (cycle before deadline : ℕ) (work : (from width : ℕ) → ℕ) → Ahead
ahead arrivals cycle before deadline work =
    record { arrivals = arrivals; cycle = cycle; before = before; deadline = deadline; work = work }

module _ (arrivals : Phase) (phase : IsPhase arrivals) (cycle before deadline : ℕ) (one other : (from width : ℕ) → ℕ)
    (same : (from width : ℕ) → one from width ≡ other from width) where
  may_lead_too : (lead : ℕ) → MayLead (ahead arrivals cycle before deadline one) lead → MayLead (ahead arrivals cycle before deadline other) lead
  may_lead_too lead may = record {
    arrival = may.arrival;
    in_cycle = may.in_cycle;
    arrives = may.arrives;
    may_start = λ from width after ends. omega (arith, same from width, may.may_start from width after ends);
  }

module _ (arrivals : Phase) (phase : IsPhase arrivals) (cycle before deadline : ℕ) (one other : (from width : ℕ) → ℕ)
    (same : (from width : ℕ) → one from width ≡ other from width) where
  -- the lead of the one is that of the other
  same_lead : least_lead (ahead arrivals cycle before deadline one) ≡ least_lead (ahead arrivals cycle before deadline other)
  same_lead =
      let is : IsLead (ahead arrivals cycle before deadline one) (least_lead (ahead arrivals cycle before deadline one))
      = least_is_lead (ahead arrivals cycle before deadline one) phase in
      lead_is_least (ahead arrivals cycle before deadline other) phase (least_lead (ahead arrivals cycle before deadline one)) (record {
        by_deadline = is.by_deadline;
        is = elim is.is [
          | inl late ↦ inl late
          | inr may ↦ inr (may.0, may_lead_too arrivals phase cycle before deadline one other same (least_lead (ahead arrivals cycle before deadline one)) may.1)
        ];
        least = λ lead from by may. is.least lead from by (may_lead_too arrivals phase cycle before deadline other one (λ f w. sym (same f w)) lead may);
      })

pub put_together : (model : SystemModel) (task : ℕ) → task < length model.tasks → (before : ℕ) (arrivals : Phase) → IsPhase arrivals
    → phase_of (stimulus_of model task) ≡ Some arrivals → (cycle deadline : ℕ) → cycle ≡ cycle_of (system_of model) task → deadline ≡ deadline_of model task
    → (in_phase : ℕ → Bool) (work : (from width : ℕ) → ℕ) → ((from width : ℕ) → work from width ≡ work_above (system_of model) in_phase task from width)
    → least_lead (ahead arrivals cycle before deadline work) ≡ least_lead (ahead_of (system_of model) in_phase (cycle_of (system_of model) task) task before)
put_together model task is before arrivals phase has cycle deadline ticks until in_phase work same =
    let fixed : arrivals ≡ arrivals_of (timing_at (system_of model) task).pattern
    = sym (ap (λ o. unwrap_or o each_moment) (ap (λ (t : Timing). phase_of t.pattern) (timing_is model task is) ∙ has)) in
    same_lead arrivals phase cycle before deadline work (work_above (system_of model) in_phase task) same
    ∙ ap (λ a. least_lead (ahead a cycle before deadline (work_above (system_of model) in_phase task))) fixed
    ∙ ap (λ c. least_lead (ahead (arrivals_of (timing_at (system_of model) task).pattern) c before deadline (work_above (system_of model) in_phase task))) ticks
    ∙ ap (λ d. least_lead (ahead (arrivals_of (timing_at (system_of model) task).pattern) (cycle_of (system_of model) task) before d (work_above (system_of model) in_phase task)))
    (until ∙ ap (λ (t : Timing). t.deadline) (sym (timing_is model task is)))

-- ---- which of them is the lead

waits : (access : AccessKind) (arrivals : Phase) (before lead : ℕ) → is_timed access ≡ false → lead_if access (Some arrivals) before lead ≡ lead
waits Explicit arrivals before lead is = refl
waits Implicit arrivals before lead is = refl
waits Timed arrivals before lead is = absurd (true≢false is)

timed : (access : AccessKind) (phase : Option Phase) (before lead : ℕ) → is_timed access ≡ true → lead_if access phase before lead ≡ before
timed Explicit phase before lead is = absurd (true≢false (sym is))
timed Implicit phase before lead is = absurd (true≢false (sym is))
timed Timed (Some arrivals) before lead is = refl
timed Timed None before lead is = refl

free : (access : AccessKind) (before lead : ℕ) → lead_if access None before lead ≡ before
free Explicit before lead = refl
free Implicit before lead = refl
free Timed before lead = refl

module _ (model : SystemModel) (task : ℕ) (is : task < length model.tasks) (place : ℕ) (access : AccessKind) (its : access ≡ (task_at model task).access)
    (before : ℕ) (read : before ≡ before_read access (spot_at (timing_at (system_of model) task) place).before) where
  -- the lead of what is ahead
  abbrev lead : ℕ
  lead = least_lead (ahead_of (system_of model) (is_one_of (in_phase_above (system_of model) task)) (cycle_of (system_of model) task) task before)

  lead_is : (phase : Option Phase) → phase_of (stimulus_of model task) ≡ phase → lead_at (system_of model) task place ≡ lead_if access phase before lead
  unfolding lead_at lead_with
  lead_is phase has =
      let own : (timing_at (system_of model) task).access ≡ access = ap (λ (t : Timing). t.access) (timing_is model task is) ∙ sym its in
      let spot : ℕ = (spot_at (timing_at (system_of model) task) place).before in
      let in_phase : ℕ → Bool = is_one_of (in_phase_above (system_of model) task) in
      let kind = (timing_at (system_of model) task).pattern in
      ap (λ b. lead_if (timing_at (system_of model) task).access (phase_of kind) b (least_lead (ahead_of (system_of model) in_phase (cycle_of (system_of model) task) task b)))
      (ap (λ a. before_read a spot) own ∙ sym read)
      ∙ ap (λ a. lead_if a (phase_of kind) before lead) own
      ∙ ap (λ o. lead_if access o before lead) (ap (λ (t : Timing). phase_of t.pattern) (timing_is model task is) ∙ has)

  pub lead_waits : (arrivals : Phase) → phase_of (stimulus_of model task) ≡ Some arrivals → is_timed access ≡ false → (found : ℕ) → found ≡ lead
      → found ≡ lead_at (system_of model) task place
  lead_waits arrivals has not found same = same ∙ sym (lead_is (Some arrivals) has ∙ waits access arrivals before lead not)

  pub lead_timed : is_timed access ≡ true → before ≡ lead_at (system_of model) task place
  lead_timed at_arrival = sym (lead_is (phase_of (stimulus_of model task)) refl ∙ timed access (phase_of (stimulus_of model task)) before lead at_arrival)

  pub lead_free : phase_of (stimulus_of model task) ≡ None → before ≡ lead_at (system_of model) task place
  lead_free none = sym (lead_is None none ∙ free access before lead)
