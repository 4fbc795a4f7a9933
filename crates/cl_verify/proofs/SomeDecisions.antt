-- Each valid model has decisions: those for which no run is made.
use Rattle.std.proofs.Common.{◌≡◌, ℕ, ◌<◌, Option, None, length, map, refl, sym, ap, ◌∙◌, subst}
use Rattle.std.proofs.Math.ListN.{length-map}
use Rattle.std.proofs.lemmas.List.{get_or-map}
use Rattle.cl_model.specs.{declared.{model.SystemModel.SystemModel, chain.{RequirementKind.RequirementKind, RequirementDef.RequirementDef}}, Validity.IsValid, ByNumber.{no_requirement, requirement_at}}
use Rattle.cl_runs.specs.{Requirements.{required_chain, IsBrokenBy}, SystemOf.system_of}
use Rattle.cl_bound.specs.{declared.answer.TaskAnswer.TaskAnswer, Answers.answer_at}
use Rattle.cl_bound.specs.declared.answer.TaskAnswer.TheVariants as answer
use Rattle.cl_analyse.specs.{declared.findings.{ChainAnswer.ChainAnswer, Verdict.Verdict}, ChainAnswers.chain_answer_at, Verdicts.{limited_bound, verdict_at}}
use Rattle.cl_analyse.specs.declared.findings.ChainAnswer.TheVariants as chain
use Rattle.cl_analyse.specs.declared.findings.Verdict.TheVariants as verdict
use Rattle.cl_tight.specs.{TightAnswers.tight_answers_of, TightFindings.{tight_chain_answers_of, tight_verdict_of, tight_findings_of}}
use Rattle.cl_tight.proofs.{TightLaws.tight_findings_safe, TightTimings.answer_count}
use Rattle.cl_verify.specs.{declared.decision.{TaskDecision.TaskDecision, Decision.Decision, Decisions.Decisions}, Decisions.{IsDecisionOnTask, IsDecisionOn, decision_at, AreTaskDecisions, AreRequirementDecisions, AreDecisionsOf}}
use Rattle.cl_verify.specs.declared.decision.TaskDecision.TheVariants as task
use Rattle.cl_verify.specs.declared.decision.Decision.TheVariants as requirement
use Rattle.cl_verify.proofs.ByFindings.{verdict_found_is, unshown_is, late_by, decided_by_runs}

-- ---- without a run

abbrev task_alone : TaskAnswer → TaskDecision
task_alone (answer.Settled settled) = task.Met settled.response
task_alone answer.Late = task.Unshown None

task_is : (model : SystemModel) (i : ℕ) (found : TaskAnswer) → IsDecisionOnTask model i found (task_alone found)
task_is model i (answer.Settled settled) = refl
task_is model i answer.Late = tt

abbrev unshown_alone : RequirementKind → ChainAnswer → Decision
unshown_alone kind (chain.Bounds bounds) = requirement.Unshown (limited_bound kind bounds) None
unshown_alone kind (chain.Late late) = requirement.Late late

abbrev requirement_alone : RequirementKind → ChainAnswer → Verdict → Decision
requirement_alone kind found (verdict.Met bound) = requirement.Met bound
requirement_alone kind found (verdict.Broken bound) = requirement.Broken bound bound
requirement_alone kind found (verdict.Unshown value) = unshown_alone kind found

module _ (model : SystemModel) (required : RequirementDef) where
  abbrev answer_is : ChainAnswer → Type 0
  answer_is found = found ≡ chain_answer_at (tight_chain_answers_of model) (required_chain model required)

  unshown_decided : (found : ChainAnswer) → answer_is found → (value : Option ℕ)
      → verdict.Unshown value ≡ tight_verdict_of model (tight_chain_answers_of model) required
      → IsDecisionOn model required (verdict.Unshown value) (unshown_alone required.kind found)
  unshown_decided (chain.Bounds bounds) found value is =
      subst (λ (bound : Option ℕ). IsDecisionOn model required (verdict.Unshown bound) (unshown_alone required.kind (chain.Bounds bounds)))
      (sym (unshown_is model required value is))
      (decided_by_runs model required (chain.Bounds bounds) found bounds (unshown_alone required.kind (chain.Bounds bounds)) refl (refl, tt))
  unshown_decided (chain.Late late) found value is =
      subst (λ (bound : Option ℕ). IsDecisionOn model required (verdict.Unshown bound) (requirement.Late late))
      (sym (unshown_is model required value is)) (late_by model required (chain.Late late) found late refl)

  requirement_is : (found : ChainAnswer) → answer_is found → (given : Verdict)
      → given ≡ tight_verdict_of model (tight_chain_answers_of model) required
      → ((value : ℕ) → given ≡ verdict.Broken value → IsBrokenBy model required value)
      → IsDecisionOn model required given (requirement_alone required.kind found given)
  requirement_is found same (verdict.Met bound) is broken = refl
  requirement_is found same (verdict.Broken bound) is broken = (refl, broken bound refl)
  requirement_is found same (verdict.Unshown value) is broken = unshown_decided found same value is

-- ---- of a model

module _ (model : SystemModel) (valid : IsValid model) where
  abbrev decided_alone : RequirementDef → Decision
  decided_alone required =
      requirement_alone required.kind (chain_answer_at (tight_chain_answers_of model) (required_chain model required))
      (tight_verdict_of model (tight_chain_answers_of model) required)

  some_tasks_decided : AreTaskDecisions model (map task_alone (tight_answers_of (system_of model)))
  unfolding tight_findings_of
  some_tasks_decided = record {
    as_many = length-map (tight_answers_of (system_of model)) task_alone ∙ answer_count model (tight_answers_of (system_of model)) refl;
    each = λ i within.
        let answers = tight_answers_of (system_of model) in
        let within_answers : i < length answers = rw (answer_count model answers refl) within in
        subst (λ (decision : TaskDecision). IsDecisionOnTask model i (answer_at answers i) decision)
        (sym (get_or-map task_alone answers i answer.Late task.Broken within_answers)) (task_is model i (answer_at answers i));
  }

  some_requirements_decided : AreRequirementDecisions model (map decided_alone model.requirements)
  some_requirements_decided = record {
    as_many = length-map model.requirements decided_alone;
    each = λ i within.
        let required = requirement_at model i in
        let given = verdict_at (tight_findings_of model).verdicts i in
        let found = verdict_found_is model i within in
        let alone = requirement_is model required (chain_answer_at (tight_chain_answers_of model) (required_chain model required)) refl given found
        (λ value is. (tight_findings_safe model valid).broken i value within is) in
        let same : decision_at (map decided_alone model.requirements) i ≡ decided_alone required
        = get_or-map decided_alone model.requirements i no_requirement (requirement.Late 0) within in
        subst (λ (decision : Decision). IsDecisionOn model required given decision)
        (ap (requirement_alone required.kind (chain_answer_at (tight_chain_answers_of model) (required_chain model required))) found ∙ sym same) alone;
  }

  pub some_decisions : (decisions : Decisions) × AreDecisionsOf model decisions
  some_decisions = (
    record { tasks = map task_alone (tight_answers_of (system_of model)); requirements = map decided_alone model.requirements },
    record { tasks = some_tasks_decided; requirements = some_requirements_decided },
  )
