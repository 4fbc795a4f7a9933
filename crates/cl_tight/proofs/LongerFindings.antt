-- Longer times meet no more: what is found met of a model is found met of one whose times are no longer.
use Rattle.std.proofs.Common.{◌≡◌, ℕ, ◌<◌, ◌≤◌, inl, inr, Bool, true, false, cond, nat_le, Option, Some, None, unwrap_or, List, length, get_or, map, refl, sym, ap, ◌∙◌, subst, arith}
use Rattle.std.specs.Prelude.{All}
use Rattle.std.proofs.lemmas.Bool.{false≢true, cases_lt, leb-true, le-leb}
use Rattle.std.proofs.lemmas.List.{length-map, get_or-map, get_or_past}
use Rattle.cl_model.specs.{declared.{chain.{ChainDef.ChainDef, LengthKind.TheVariants.{Reaction, Age, Reduced}, RequirementDef.RequirementDef, RequirementKind.{RequirementKind, TheVariants.{Length, Delay}}}, group.Group.Group, model.SystemModel.SystemModel}, Groups.groups_at}
use Rattle.cl_model.specs.{Named.index_of, Validity.IsValid, ByNumber.{no_requirement, requirement_at}}
use Rattle.cl_runs.specs.{Requirements.required_chain, SystemOf.system_of, TaskTiming.{System, IsSound}}
use Rattle.cl_runs.proofs.ModelSystem.{system_sound}
use Rattle.cl_hop.specs.{Bounds.Lengths, NoGreater.AreNoGreater}
use Rattle.cl_resp.specs.LesserTimes.{TakesNoMore}
use Rattle.cl_bound.specs.Answers.{answer_at, is_late, NoneIsLate}
use Rattle.cl_phase.specs.TightBounds.{tight_bounds}
use Rattle.cl_analyse.specs.{declared.findings.{ChainAnswer.TheVariants.Bounds, Verdict.TheVariants.{Met, Broken, Unshown}}, ChainAnswers.chain_answer_at, Verdicts.{limited_bound, required_bound, verdict_on, verdict_at, is_met}}
use Rattle.cl_analyse.proofs.KeptRequirements.{bound_valued}
use Rattle.cl_tight.specs.{LongerTimes.{IsNoLonger, DifferInGreatestTimes}, TightAnswers.tight_answers_of, TightFindings.{tight_chain_answers_of, has_exact_bounds, exact_bound, tight_verdict_of, tight_findings_of}, TightTimings.tight_timing}
use Rattle.cl_tight.proofs.{LongerTimes.{task_timely, timely_too, longer_no_less}, TightChains.{of_tasks, own_bounds, tight_given, tight_where}, TightRequirements.bounded_chain}

-- ---- when a requirement is met

met_exact : (most value : ℕ) (test : Bool) → is_met (cond test (Met value) (Broken value)) ≡ true → test ≡ true
met_exact most value true met = refl
met_exact most value false met = absurd (false≢true met)

met_bound : (most value : ℕ) (test : Bool) → is_met (cond test (Met value) (Unshown (Some value))) ≡ true → test ≡ true
met_bound most value true met = refl
met_bound most value false met = absurd (false≢true met)

-- it is met only where there is a bound, which is at most what is required, be it exact or not
pub met_within : (most : ℕ) (is_exact : Bool) (bound : Option ℕ) → is_met (verdict_on most (exact_bound is_exact bound) bound) ≡ true
    → (value : ℕ) × (bound ≡ Some value) × (value ≤ most)
met_within most true (Some value) met = (value, refl, leb-true value most (met_exact most value (nat_le value most) met))
met_within most false (Some value) met = (value, refl, leb-true value most (met_bound most value (nat_le value most) met))
met_within most true None met = absurd (false≢true met)
met_within most false None met = absurd (false≢true met)

-- and there it is
pub within_met : (most : ℕ) (is_exact : Bool) (value : ℕ) → value ≤ most → is_met (verdict_on most (exact_bound is_exact (Some value)) (Some value)) ≡ true
within_met most true value within = ap (λ test. is_met (cond test (Met value) (Broken value))) (le-leb value most within)
within_met most false value within = ap (λ test. is_met (cond test (Met value) (Unshown (Some value)))) (le-leb value most within)

-- what is required limits no greater bound
kind_less : (kind : RequirementKind) (one other : Lengths) → AreNoGreater one other → limited_bound kind one ≤ limited_bound kind other
kind_less (Length Reaction) one other less = less.reaction
kind_less (Length Age) one other less = less.age
kind_less (Length Reduced) one other less = less.reduced
kind_less Delay one other less = less.delay

module _ (model : SystemModel) where
  -- the verdict on the requirement of a number, which is met only where there is one
  verdict_is : (i : ℕ) → i < length model.requirements
      → verdict_at (tight_findings_of model).verdicts i ≡ tight_verdict_of model (tight_chain_answers_of model) (requirement_at model i)
  unfolding tight_findings_of
  verdict_is i within = get_or-map (tight_verdict_of model (tight_chain_answers_of model)) model.requirements i no_requirement (Unshown None) within

  pub met_known : (i : ℕ) → is_met (verdict_at (tight_findings_of model).verdicts i) ≡ true → i < length model.requirements
  unfolding tight_findings_of
  met_known i met = elim (cases_lt i (length model.requirements)) [
    | inl within ↦ within
    | inr past ↦ absurd (false≢true (sym (ap is_met (get_or_past (map (tight_verdict_of model (tight_chain_answers_of model)) model.requirements) i (Unshown None)
        (omega (arith, past, length-map model.requirements (tight_verdict_of model (tight_chain_answers_of model)))))) ∙ met))
  ]

  abbrev chain_of : (i : ℕ) → ℕ
  chain_of i = required_chain model (requirement_at model i)

  -- what is met has bounds that are within what is required
  pub met_bounds : (i : ℕ) → is_met (verdict_at (tight_findings_of model).verdicts i) ≡ true
      → (bounds : Lengths) × (chain_answer_at (tight_chain_answers_of model) (chain_of i) ≡ Bounds bounds)
      × (limited_bound (requirement_at model i).kind bounds ≤ (requirement_at model i).most)
  unfolding tight_verdict_of
  met_bounds i met =
      let requirement = requirement_at model i in
      let answer = chain_answer_at (tight_chain_answers_of model) (chain_of i) in
      let (value, is, within) = met_within requirement.most (has_exact_bounds model (chain_of i)) (required_bound requirement.kind answer)
      (sym (ap is_met (verdict_is i (met_known i met))) ∙ met) in
      let (bounds, given, same) = bound_valued requirement.kind answer value is in
      (bounds, given, omega (arith, same, within))

  -- and what has such bounds is met
  pub bounds_meet : (i : ℕ) → i < length model.requirements → (bounds : Lengths)
      → chain_answer_at (tight_chain_answers_of model) (chain_of i) ≡ Bounds bounds
      → limited_bound (requirement_at model i).kind bounds ≤ (requirement_at model i).most
      → is_met (verdict_at (tight_findings_of model).verdicts i) ≡ true
  unfolding tight_verdict_of
  bounds_meet i known bounds given within =
      let requirement = requirement_at model i in
      ap is_met (verdict_is i known)
      ∙ ap (λ answer. is_met (verdict_on requirement.most (exact_bound (has_exact_bounds model (chain_of i)) (required_bound requirement.kind answer))
      (required_bound requirement.kind answer))) given
      ∙ within_met requirement.most (has_exact_bounds model (chain_of i)) (limited_bound requirement.kind bounds) within

-- ---- two models

module _ (less more : SystemModel) (valid : IsValid less) (valid_more : IsValid more) (differ : DifferInGreatestTimes less more) where
  abbrev system : System
  system = system_of less

  abbrev system_more : System
  system_more = system_of more

  sound : IsSound system
  sound = system_sound less valid

  sound_more : IsSound system_more
  sound_more = system_sound more valid_more

  pub tasks_stay : (task : ℕ) → TakesNoMore system system_more task
      → is_late (answer_at (tight_findings_of more).tasks task) ≡ false → is_late (answer_at (tight_findings_of less).tasks task) ≡ false
  unfolding tight_findings_of
  tasks_stay task takes timely = task_timely system system_more sound sound_more task takes timely

  module _ (chain : ℕ) (no_longer : All (IsNoLonger system system_more) (groups_at less chain)) where
    abbrev groups : List Group
    groups = groups_at less chain

    stay : (bounds : Lengths) → chain_answer_at (tight_chain_answers_of more) chain ≡ Bounds bounds
        → (lesser : Lengths) × (chain_answer_at (tight_chain_answers_of less) chain ≡ Bounds lesser) × AreNoGreater lesser bounds
    stay bounds is =
        let within = bounded_chain more valid_more chain bounds is in
        let (given, own) = tight_given more valid_more chain within bounds is in
        let timely : NoneIsLate (tight_answers_of system_more) groups = subst (NoneIsLate (tight_answers_of system_more)) (sym (differ.groups chain)) given in
        let same : tight_bounds system_more (tight_timing system_more) groups ≡ bounds
        = ap (λ list. tight_bounds system_more (tight_timing system_more) list) (differ.groups chain) ∙ own in
        let known : chain < length less.chains = omega (arith, within, ap length differ.chains) in (
          own_bounds less valid chain,
          tight_where less valid chain known
              (λ place d h. timely_too system system_more sound sound_more differ.tasks (get_or groups place d) (of_tasks less valid chain place d h)
              (no_longer place d h) (timely place d h)),
          subst (AreNoGreater (own_bounds less valid chain)) same
              (longer_no_less system system_more sound sound_more differ.tasks groups (of_tasks less valid chain) no_longer timely),
        )

    pub chains_stay : (bounds : Lengths) → chain_answer_at (tight_findings_of more).chains chain ≡ Bounds bounds
        → (lesser : Lengths) × (chain_answer_at (tight_findings_of less).chains chain ≡ Bounds lesser) × AreNoGreater lesser bounds
    unfolding tight_findings_of
    chains_stay = stay

  -- the requirements and the chains that they name are the same
  required_same : (i : ℕ) → required_chain less (requirement_at less i) ≡ required_chain more (requirement_at more i)
  required_same i = λ j. unwrap_or (index_of (get_or (differ.requirements j) i no_requirement).chain (map (λ (chain : ChainDef). chain.name) (differ.chains j))) 0

  pub requirements_stay : (i : ℕ) → All (IsNoLonger system system_more) (groups_at less (required_chain less (requirement_at less i)))
      → is_met (verdict_at (tight_findings_of more).verdicts i) ≡ true → is_met (verdict_at (tight_findings_of less).verdicts i) ≡ true
  requirements_stay i no_longer met =
      let (bounds, given, within) = met_bounds more i met in
      let chain : ℕ = required_chain less (requirement_at less i) in
      let (lesser, given_less, no_greater) = stay chain no_longer bounds
      (ap (chain_answer_at (tight_chain_answers_of more)) (required_same i) ∙ given) in
      let same : requirement_at less i ≡ requirement_at more i = ap (λ (list : List RequirementDef). get_or list i no_requirement) differ.requirements in
      bounds_meet less i (omega (arith, met_known more i met, ap length differ.requirements)) lesser given_less
      (omega (
        arith,
        within,
        kind_less (requirement_at less i).kind lesser bounds no_greater,
        ap (λ (r : RequirementDef). r.most) same,
        ap (λ (r : RequirementDef). limited_bound r.kind bounds) same,
      ))
