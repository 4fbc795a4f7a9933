-- A requirement is found met by tight findings exactly where its chain has bounds and what it limits is at most what is
-- required. A task is met where it isn't late.
use Rattle.std.proofs.Common.{◌≡◌, ℕ, ◌<◌, ◌≤◌, Bool, true, false, not, Option, Some, None, length, refl, sym, ap, ◌∙◌, arith}
use Rattle.std.specs.Prelude.{nat_le, if◌then◌else◌}
use Rattle.std.proofs.Math.Nat.{lt_of_not-le}
use Rattle.std.proofs.lemmas.Bool.{false≢true, leb-true}
use Rattle.std.proofs.lemmas.List.{get_or-map, get_or_past, length-map}
use Rattle.std.proofs.lemmas.List.FromFn.{length-map-range_with_len}
use Rattle.cl_model.specs.{declared.{chain.{RequirementDef.RequirementDef, RequirementKind.RequirementKind}, model.SystemModel.SystemModel}, ByNumber.{no_requirement, requirement_at}}
use Rattle.cl_runs.specs.{Requirements.required_chain, SystemOf.system_of}
use Rattle.cl_runs.proofs.ModelSystem.{count_is}
use Rattle.cl_hop.specs.Bounds.{Lengths}
use Rattle.cl_bound.specs.Answers.{answer_at, is_late}
use Rattle.cl_analyse.specs.{declared.findings.{ChainAnswer.{ChainAnswer, TheVariants.{Bounds, Late}}, Verdict.TheVariants.{Met, Broken, Unshown}}, ChainAnswers.chain_answer_at, Verdicts.{limited_bound, required_bound, verdict_on, is_met}}
use Rattle.cl_tight.specs.{TightAnswers.{tight_answer_to, tight_answers_of}, TightFindings.{tight_chain_answer_of, tight_chain_answers_of, has_exact_bounds, exact_bound, tight_verdict_of, tight_findings_of}}
use Rattle.cl_margin.specs.Margins.{is_met_task, is_met_requirement}

-- a bound that there is is at most so much
abbrev pub is_within : (most : ℕ) → Option ℕ → Bool
is_within most (Some bound) = nat_le bound most
is_within most None = false

met_or_broken : (value : ℕ) (test : Bool) → is_met (if test then Met value else Broken value) ≡ test
met_or_broken value true = refl
met_or_broken value false = refl

met_or_unshown : (value : ℕ) (test : Bool) → is_met (if test then Met value else Unshown (Some value)) ≡ test
met_or_unshown value true = refl
met_or_unshown value false = refl

met_is : (is_exact : Bool) (most : ℕ) (bound : Option ℕ) → is_met (verdict_on most (exact_bound is_exact bound) bound) ≡ is_within most bound
met_is true most (Some bound) = met_or_broken bound (nat_le bound most)
met_is true most None = refl
met_is false most (Some bound) = met_or_unshown bound (nat_le bound most)
met_is false most None = refl

-- where a bound is within, the chain has bounds
bounds_within : (kind : RequirementKind) (most : ℕ) (answer : ChainAnswer) → is_within most (required_bound kind answer) ≡ true
    → (bounds : Lengths) × (answer ≡ Bounds bounds) × (limited_bound kind bounds ≤ most)
bounds_within kind most (Bounds bounds) is = (bounds, refl, leb-true _ _ is)
bounds_within kind most (Late task) is = absurd (false≢true is)

module _ (model : SystemModel) where
  -- a chain that has bounds is one of the model
  pub chain_bounded : (chain : ℕ) (bounds : Lengths) → chain_answer_at (tight_chain_answers_of model) chain ≡ Bounds bounds → chain < length model.chains
  chain_bounded chain bounds is =
      lt_of_not-le (λ past. not_late (sym (get_or_past (tight_chain_answers_of model) chain (Late 0) (omega (arith, past, length-map model.chains (tight_chain_answer_of model)))) ∙ is))
    where
      not_late : Late 0 ≡ Bounds bounds → ⊥
      not_late e = cc

  -- there is an answer for each task, and a verdict on each requirement
  pub tasks_found : length (tight_findings_of model).tasks ≡ length model.tasks
  unfolding tight_findings_of tight_answers_of
  tasks_found = length-map-range_with_len (tight_answer_to (system_of model)) 0 (length (system_of model).tasks) ∙ count_is model

  pub verdicts_found : length (tight_findings_of model).verdicts ≡ length model.requirements
  unfolding tight_findings_of
  verdicts_found = length-map model.requirements (tight_verdict_of model (tight_chain_answers_of model))

  pub task_met_is : (task : ℕ) → is_met_task (tight_findings_of model) task ≡ not (is_late (answer_at (tight_answers_of (system_of model)) task))
  unfolding tight_findings_of
  task_met_is task = refl

  module _ (i : ℕ) (h : i < length model.requirements) where
    abbrev requirement : RequirementDef
    requirement = requirement_at model i

    abbrev answer : ChainAnswer
    answer = chain_answer_at (tight_chain_answers_of model) (required_chain model requirement)

    pub requirement_met_is : is_met_requirement (tight_findings_of model) i ≡ is_within requirement.most (required_bound requirement.kind answer)
    unfolding tight_findings_of tight_verdict_of
    requirement_met_is =
        ap is_met (get_or-map (tight_verdict_of model (tight_chain_answers_of model)) model.requirements i no_requirement (Unshown None) h)
        ∙ met_is (has_exact_bounds model (required_chain model requirement)) requirement.most (required_bound requirement.kind answer)

    pub met_by_bounds : is_met_requirement (tight_findings_of model) i ≡ true
        → (bounds : Lengths) × (answer ≡ Bounds bounds) × (limited_bound requirement.kind bounds ≤ requirement.most)
    met_by_bounds is = bounds_within requirement.kind requirement.most answer (sym requirement_met_is ∙ is)
