-- Requirements by tight findings: what is met is kept, and what is broken is broken in some legal run.
use Rattle.std.proofs.Common.{◌≡◌, ◌⊎◌, ℕ, ◌+◌, ◌≤◌, ◌<◌, Bool, true, false, Option, Some, inl, inr, List, length, get_or, refl, sym, ap, ◌∙◌, arith}
use Rattle.std.proofs.Math.ListN.{length-map}
use Rattle.std.proofs.Math.Nat.{lt_of_not-le}
use Rattle.std.proofs.lemmas.List.{get_or_past}
use Rattle.cl_model.specs.{declared.{model.SystemModel.SystemModel, chain.{LengthKind.TheVariants.{Reaction, Age, Reduced}, RequirementKind.{RequirementKind, TheVariants.{Length, Delay}}, RequirementDef.RequirementDef}, group.Group.Group}, Groups.{groups_at, no_group}, Kinds.is_timed}
use Rattle.cl_model.specs.Validity.{IsValid}
use Rattle.cl_model.proofs.GroupFacts.{groups_at_are, groups_at_some}
use Rattle.cl_runs.specs.{TaskTiming.{System, IsSound}, SystemOf.system_of, Run.Run, Legal.IsLegal, Chains.first_group, Requirements.{required_chain, IsKept, HasLength, IsBrokenBy}}
use Rattle.cl_runs.proofs.ModelSystem.{system_sound}
use Rattle.cl_hop.specs.Bounds.{Lengths}
use Rattle.cl_bound.specs.Answers.{NoneIsLate}
use Rattle.cl_exact.specs.{ExactLengths.{Witnesses, chain_of}, RunPromises.{HaveResponses, HasWitnessRun, IsSettledTimedChain}}
use Rattle.cl_exact.proofs.{ExactOnce.within_or_past, RunExact.witness_run, RunMoments.{IsIdealTask, task_period}, RunTasks.{settled_timed_groups, ideal_groups}, SomeExact.exact_lengths_exist}
use Rattle.cl_phase.proofs.DelayReactions.{timed_delay}
use Rattle.cl_analyse.specs.{declared.findings.{ChainAnswer.TheVariants.{Bounds, Late}, Verdict.TheVariants.{Met, Broken}}, ChainAnswers.chain_answer_at, Verdicts.{limited_bound, required_bound}}
use Rattle.cl_analyse.proofs.KeptRequirements.{met_by, broken_by, bound_valued, kind_bound, HasChain}
use Rattle.cl_tight.specs.{TightAnswers.{tight_answers_of, tight_response}, ExactBounds.AreLengthsOf, TightFindings.{tight_chain_answer_of, tight_chain_answers_of, has_exact_bounds, exact_bound, tight_verdict_of}, TightTimings.tight_timing}
use Rattle.cl_tight.proofs.{ModelTight.phased_of_chain, CommonPeriods.exact_where, ExactDelays.{taken, takes_on, shorter_by_a_period}, TightChains.{timely_task, own_bounds, timings_keep, tight_given, tight_bounds_hold}}

-- ---- kinds

-- the run of the witnesses has a chain of each kind that is as long as the bound, where bounds are exact
module _ (system : System) (sound : IsSound system) (groups : List Group) (exact : Witnesses) (has : HasWitnessRun system groups exact)
    (bounds : Lengths) (are : AreLengthsOf bounds exact) (first : IsIdealTask system (first_group groups).task)
    (shorter : bounds.delay + task_period system (first_group groups).task ≡ bounds.reaction) where
  kind_occurs : (kind : RequirementKind) → HasChain system groups has.run kind (limited_bound kind bounds)
  kind_occurs (Length Reaction) = record {
    chain = chain_of exact.reaction;
    complete = has.reaction.is_chain;
    is_long = has.reaction.length ∙ sym are.reaction;
  }
  kind_occurs (Length Age) = record { chain = chain_of exact.age; complete = has.age.is_chain; is_long = has.age.length ∙ sym are.age }
  kind_occurs (Length Reduced) = record {
    chain = chain_of exact.reduced;
    complete = has.reduced.is_chain;
    is_long = has.reduced.length ∙ sym are.reduced;
  }
  kind_occurs Delay = record {
    chain = taken system has.run groups (chain_of exact.reaction) has.reaction.is_chain;
    complete = takes_on system has.run groups (chain_of exact.reaction) has.reaction.is_chain;
    is_long = shorter_by_a_period system has.run groups (chain_of exact.reaction) has.reaction.is_chain sound has.legal first
        bounds.delay (has.reaction.length ∙ sym are.reaction ∙ sym shorter);
  }

-- ---- exact bounds

-- a bound that is said exact is so, and is the bound
exact_bounded : (is_exact : Bool) (bound : Option ℕ) (value : ℕ) → exact_bound is_exact bound ≡ Some value → (is_exact ≡ true) × (bound ≡ Some value)
exact_bounded true bound value is = (refl, is)
exact_bounded false bound value is = absurd cc

bound_of_either : (is_exact : Bool) (bound : Option ℕ) (value : ℕ) → (exact_bound is_exact bound ≡ Some value) ⊎ (bound ≡ Some value) → bound ≡ Some value
bound_of_either is_exact bound value (inl exact) = (exact_bounded is_exact bound value exact).1
bound_of_either is_exact bound value (inr is) = is

module _ (model : SystemModel) (valid : IsValid model) where
  abbrev system : System
  system = system_of model

  -- a chain that has tight bounds is a chain of the model
  pub bounded_chain : (chain : ℕ) (bounds : Lengths) → chain_answer_at (tight_chain_answers_of model) chain ≡ Bounds bounds → chain < length model.chains
  bounded_chain chain bounds is =
      lt_of_not-le (λ past. not_late (sym (get_or_past (tight_chain_answers_of model) chain (Late 0) (omega (arith, past, length-map model.chains (tight_chain_answer_of model)))) ∙ is))
    where
      not_late : Late 0 ≡ Bounds bounds → ⊥
      not_late e = cc

  -- ---- tight bounds that are exact occur

  module _ (chain : ℕ) (within : chain < length model.chains) where
    abbrev groups : List Group
    groups = groups_at model chain

    responses : NoneIsLate (tight_answers_of system) groups → HaveResponses system groups
    responses timely place d h = record {
      response = tight_response system (get_or groups place d).task;
      timely = timely_task model valid (get_or groups place d).task (groups_at_are model valid chain place d h).known (timely place d h);
    }

    settled : has_exact_bounds model chain ≡ true → NoneIsLate (tight_answers_of system) groups → IsSettledTimedChain system groups
    settled rule timely =
        settled_timed_groups model groups (groups_at_are model valid chain) (exact_where model valid chain rule).0 (responses timely)

    -- in some legal run complete chains are as long as the tight bounds
    bounds_occur : has_exact_bounds model chain ≡ true → NoneIsLate (tight_answers_of system) groups
        → (exact : Witnesses) × HasWitnessRun system groups exact × AreLengthsOf (own_bounds model valid chain) exact
    bounds_occur rule timely =
        let (timed, limit) = exact_where model valid chain rule in
        elim (exact_lengths_exist model valid chain within timed) [
          | inl (exact, are, _) ↦ (
            exact,
            witness_run system (system_sound model valid) groups (settled rule timely) exact are,
            phased_of_chain model valid chain within timed limit exact are,
          )
          | inr past ↦ absurd (within_or_past system groups limit past)
        ]

    -- the first task is periodic and timed
    first_ideal : has_exact_bounds model chain ≡ true → NoneIsLate (tight_answers_of system) groups → IsIdealTask system (first_group groups).task
    first_ideal rule timely = (ideal_groups system groups (settled rule timely) 0 no_group (groups_at_some model valid chain within)).task

    -- so a delay is a reaction less its period
    period_less : has_exact_bounds model chain ≡ true → NoneIsLate (tight_answers_of system) groups
        → (own_bounds model valid chain).delay + task_period system (first_group groups).task ≡ (own_bounds model valid chain).reaction
    period_less rule timely =
        let some = groups_at_some model valid chain within in
        let keep = timings_keep model valid chain within timely in
        let ideal = first_ideal rule timely in
        timed_delay system (system_sound model valid) (tight_timing system) groups some keep
        ((keep 0 no_group some).of_group.is_timed ∙ ap is_timed ideal.timed)
        (task_period system (first_group groups).task) _ _ ideal.periodic

    occurs : has_exact_bounds model chain ≡ true → NoneIsLate (tight_answers_of system) groups → (kind : RequirementKind)
        → (run : Run) × IsLegal system run × HasChain system groups run kind (limited_bound kind (own_bounds model valid chain))
    occurs rule timely kind =
        let (exact, has, are) = bounds_occur rule timely in (
          has.run,
          has.legal,
          kind_occurs system (system_sound model valid) groups exact has (own_bounds model valid chain) are (first_ideal rule timely) (period_less rule timely) kind,
        )

  -- ---- verdicts

  module _ (requirement : RequirementDef) where
    abbrev chain : ℕ
    chain = required_chain model requirement

    abbrev bound : Option ℕ
    bound = required_bound requirement.kind (chain_answer_at (tight_chain_answers_of model) chain)

    kept_by : (value : ℕ) → value ≤ requirement.most → bound ≡ Some value → IsKept model requirement
    kept_by value within is =
        let (bounds, given, same) = bound_valued requirement.kind (chain_answer_at (tight_chain_answers_of model) chain) value is in
        let safe = tight_bounds_hold model valid chain (bounded_chain chain bounds given) bounds given in
        λ run legal job_chain complete.
        let longest = kind_bound system (groups_at model chain) run job_chain requirement.kind bounds (safe run legal) complete in
        omega (arith, longest, same, within)

    pub met_kept : (value : ℕ) → tight_verdict_of model (tight_chain_answers_of model) requirement ≡ Met value → IsKept model requirement
    unfolding tight_verdict_of
    met_kept value is =
        let (own, within, from) = met_by requirement.most value (exact_bound (has_exact_bounds model chain) bound) bound is in
        kept_by own within (bound_of_either (has_exact_bounds model chain) bound own from)

    occurs_by_bound : (value : ℕ) → has_exact_bounds model chain ≡ true → bound ≡ Some value → HasLength model chain requirement.kind value
    occurs_by_bound value rule is =
        let (bounds, given, same) = bound_valued requirement.kind (chain_answer_at (tight_chain_answers_of model) chain) value is in
        let within = bounded_chain chain bounds given in
        let (timely, own) = tight_given model valid chain within bounds given in
        let (run, legal, found) = occurs chain within rule timely requirement.kind in
        let as_long = ap (limited_bound requirement.kind) own in
        record { run = run; legal = legal; jobs = found.chain; complete = found.complete; lasts = omega (arith, same, as_long, found.is_long) }

    pub broken_is : (value : ℕ) → tight_verdict_of model (tight_chain_answers_of model) requirement ≡ Broken value → IsBrokenBy model requirement value
    unfolding tight_verdict_of
    broken_is value is =
        let (exact, past) = broken_by requirement.most value (exact_bound (has_exact_bounds model chain) bound) bound is in
        let (rule, own) = exact_bounded (has_exact_bounds model chain) bound value exact in
        record { longer = past; occurs = occurs_by_bound value rule own }
