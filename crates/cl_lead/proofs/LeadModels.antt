-- The tasks in phase above a task of a valid model come round with its cycle, and their first jobs
-- arrive early.
use Rattle.std.proofs.Common.{◌≡◌, ℕ, ◌+◌, ◌<◌, ◌≤◌, inl, inr, true, Some, unwrap_or, length, sym, ap, ◌∙◌, subst, arith}
use Rattle.std.specs.Int.{◌∣◌}
use Rattle.std.proofs.lemmas.Bool.{cases_lt}
use Rattle.std.proofs.lemmas.List.{get_or_past}
use Rattle.cl_model.specs.{declared.{model.SystemModel.SystemModel, stimulus.StimulusKind.{StimulusKind, TheVariants.Periodic}}, ByNumber.stimulus_of, Timing.IsKindOrdered, Validity.IsValid}
use Rattle.cl_runs.specs.{SystemOf.system_of, TaskTiming.{Timing, System, timing_at, no_timing, IsSound}, Table.job_at, Run.{Run, jobs_of}, Legal.IsLegal, Moments.Reads}
use Rattle.cl_runs.proofs.{LegalFacts.place_of_task, ModelSystem.{timing_is, count_is, system_sound}}
use Rattle.cl_stim.specs.{declared.phase.Phase.Phase, Phase.phase_of}
use Rattle.cl_stim.proofs.ValidStimuli.{has_stimulus}
use Rattle.cl_cycle.specs.{Counts.each_moment, Cycles.{is_one_of, in_phase_above, cycle_of}, Promises.ComesRound}
use Rattle.cl_cycle.proofs.CycleMembers.{cycle_positive, own_divides, members_come_round}
use Rattle.cl_lead.specs.Leads.{lead_at, IsCommonCycle}
use Rattle.cl_lead.proofs.LeadReads.{some_period, reads_after_lead}

period_is : (kind : StimulusKind) (period offset jitter : ℕ) (phase : Phase) → kind ≡ Periodic period offset jitter → phase_of kind ≡ Some phase
    → phase.period ≡ period
period_is kind period offset jitter phase is has =
    let same : Some phase ≡ phase_of (Periodic period offset jitter) = sym has ∙ ap phase_of is in
    ap (λ o. (unwrap_or o each_moment).period) same

-- past the last task no period is a tick or more
none_past : (period offset jitter : ℕ) → no_timing.pattern ≡ Periodic period offset jitter → period ≡ 0
unfolding no_timing
none_past period offset jitter is =
    sym (ap (λ kind. (unwrap_or (phase_of kind) each_moment).period) is)

module _ (system : System) (sound : IsSound system) (task : ℕ) (is : task < length system.tasks) where
  divides_of : (other period offset jitter : ℕ) → is_one_of (in_phase_above system task) other ≡ true
      → (timing_at system other).pattern ≡ Periodic period offset jitter → period ∣ cycle_of system task
  divides_of other period offset jitter passes kind =
      let round : ComesRound system (cycle_of system task) other = members_come_round system sound task is other passes in
      subst (λ n. n ∣ cycle_of system task) (period_is (timing_at system other).pattern period offset jitter round.phase kind round.fixed) round.divides

  pub common_cycle : ((other period offset jitter : ℕ) → other < length system.tasks → (timing_at system other).pattern ≡ Periodic period offset jitter → offset < period)
      → IsCommonCycle system (is_one_of (in_phase_above system task)) (cycle_of system task) task
  common_cycle early = record {
    some = cycle_positive system sound task is;
    own = own_divides system sound task is;
    divides = divides_of;
    early = λ other period offset jitter passes kind. elim (cases_lt other (length system.tasks)) [
      | inl below ↦ early other period offset jitter below kind
      | inr past ↦
          let nothing : timing_at system other ≡ no_timing = get_or_past system.tasks other no_timing past in
          absurd (omega (
            arith,
            some_period period (cycle_of system task) (cycle_positive system sound task is) (divides_of other period offset jitter passes kind),
            none_past period offset jitter (sym (ap (λ (t : Timing). t.pattern) nothing) ∙ kind),
          ))
    ];
  }

module _ (model : SystemModel) (valid : IsValid model) where
  -- offsets of a valid model are less than the periods
  offsets_early : (other period offset jitter : ℕ) → other < length (system_of model).tasks
      → (timing_at (system_of model) other).pattern ≡ Periodic period offset jitter → offset < period
  offsets_early other period offset jitter below kind =
      let there : other < length model.tasks = omega (arith, below, count_is model) in
      let same : stimulus_of model other ≡ Periodic period offset jitter
      = sym (ap (λ (t : Timing). t.pattern) (timing_is model other there)) ∙ kind in
      subst IsKindOrdered same (has_stimulus model valid other there).1

  pub reads_after_lead_of_model : (run : Run) → IsLegal (system_of model) run → (i k p t : ℕ) → Reads (system_of model) run i k p t
      → (job_at (jobs_of run i) k).arrival + lead_at (system_of model) i p ≤ t
  unfolding lead_at
  reads_after_lead_of_model run legal i k p t reads =
      let is : i < length (system_of model).tasks = place_of_task (system_of model) i p reads.is_runnable in
      reads_after_lead (system_of model) (system_sound model valid) (is_one_of (in_phase_above (system_of model) i)) (cycle_of (system_of model) i) i
      (common_cycle (system_of model) (system_sound model valid) i is offsets_early) run legal k p t reads
