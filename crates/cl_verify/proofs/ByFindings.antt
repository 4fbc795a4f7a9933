-- What is decided, by what was found and by what runs show.
use Rattle.std.proofs.Common.{◌≡◌, ℕ, ◌<◌, Bool, true, false, Option, Some, None, List, length, get_or, refl, sym, ap, ◌∙◌, subst, nat_le, arith}
use Rattle.std.specs.Prelude.{Result, IfOk, if◌then◌else◌}
use Rattle.std.specs.Option.{option_map}
use Rattle.std.proofs.lemmas.List.{get_or-map}
use Rattle.cl_model.specs.{declared.{model.SystemModel.SystemModel, chain.RequirementDef.RequirementDef}, ByNumber.{no_requirement, requirement_at}}
use Rattle.cl_runs.specs.{Requirements.{required_chain, IsBrokenBy}, SystemOf.system_of}
use Rattle.cl_runs.proofs.ModelSystem.{count_is}
use Rattle.cl_hop.specs.Bounds.{Lengths}
use Rattle.cl_resp.specs.{ByPhase.response_by_phase, Response.Response}
use Rattle.cl_bound.specs.{declared.answer.TaskAnswer.TaskAnswer, Answers.{answer_with, answer_at, is_late}}
use Rattle.cl_bound.specs.declared.answer.TaskAnswer.TheVariants as answer
use Rattle.cl_analyse.specs.{declared.findings.{ChainAnswer.ChainAnswer, Verdict.Verdict}, ChainAnswers.chain_answer_at, Verdicts.{limited_bound, required_bound, verdict_on, verdict_at}}
use Rattle.cl_analyse.specs.declared.findings.ChainAnswer.TheVariants as chain
use Rattle.cl_analyse.specs.declared.findings.Verdict.TheVariants as verdict
use Rattle.cl_tight.specs.{declared.findings.TightFindings.TightFindings, TightAnswers.tight_answers_of, TightFindings.{tight_chain_answers_of, has_exact_bounds, exact_bound, tight_verdict_of, tight_findings_of}}
use Rattle.cl_tight.proofs.{TightTasks.phased_answer, TightLengths.{tight_tasks_found, tight_chains_within}}
use Rattle.cl_report.proofs.ReportLines.{task_answer, chain_answer_in}
use Rattle.cl_verify.specs.declared.decision.TaskDecision.TheVariants as task
use Rattle.cl_verify.specs.{declared.decision.Decision.Decision, Decisions.{IsDecisionOnTask, IsDecisionByRuns, IsDecisionOn, tight_bound}, Witnesses.settled_response}
use Rattle.cl_verify.specs.declared.decision.Decision.TheVariants as requirement

-- ---- what was found

-- the lists of the findings
pub tasks_of_findings : (model : SystemModel) (findings : TightFindings) → findings ≡ tight_findings_of model → findings.tasks ≡ tight_answers_of (system_of model)
unfolding tight_findings_of
tasks_of_findings model findings is = ap (λ (f : TightFindings). f.tasks) is

pub chains_of_findings : (model : SystemModel) (findings : TightFindings) → findings ≡ tight_findings_of model → findings.chains ≡ tight_chain_answers_of model
unfolding tight_findings_of
chains_of_findings model findings is = ap (λ (f : TightFindings). f.chains) is

-- the answer for a task, as it is found in the list
pub answer_found : (model : SystemModel) (findings : TightFindings) (slice : List TaskAnswer) (i : ℕ) (found : TaskAnswer) → findings ≡ tight_findings_of model
    → slice ≡ findings.tasks → i < length model.tasks → found ≡ get_or slice i found → found ≡ answer_at (tight_findings_of model).tasks i
answer_found model findings slice i found is same within at =
    task_answer slice i found (omega (arith, within, ap length same, tight_tasks_found model findings is)) at
    ∙ ap (λ (list : List TaskAnswer). answer_at list i) (same ∙ ap (λ (f : TightFindings). f.tasks) is)

-- by its phases alone
pub answer_by_phases : (model : SystemModel) (i : ℕ) → answer_at (tight_findings_of model).tasks i ≡ answer_at (tight_answers_of (system_of model)) i
answer_by_phases model i = ap (λ (list : List TaskAnswer). answer_at list i) (tasks_of_findings model (tight_findings_of model) refl)

-- the answer for the chain of a requirement, as it is found in the list
pub chain_found : (model : SystemModel) (findings : TightFindings) (slice : List ChainAnswer) (i : ℕ) (found : ChainAnswer) → findings ≡ tight_findings_of model
    → slice ≡ findings.chains → i < length model.chains → found ≡ get_or slice i found → found ≡ chain_answer_at (tight_chain_answers_of model) i
chain_found model findings slice i found is same within at =
    let are = same ∙ chains_of_findings model findings is in
    chain_answer_in slice i found (tight_chains_within model slice i are within) at ∙ ap (λ (list : List ChainAnswer). chain_answer_at list i) are

-- the verdict on the requirement of a number
pub verdict_found_is : (model : SystemModel) (i : ℕ) → i < length model.requirements
    → verdict_at (tight_findings_of model).verdicts i ≡ tight_verdict_of model (tight_chain_answers_of model) (requirement_at model i)
unfolding tight_findings_of
verdict_found_is model i within =
    get_or-map (tight_verdict_of model (tight_chain_answers_of model)) model.requirements i no_requirement (verdict.Unshown None) within

-- ---- tasks

module _ (model : SystemModel) (i : ℕ) (found : TaskAnswer) where
  pub settled_decided : (settled : Response) → found ≡ answer.Settled settled → IsDecisionOnTask model i found (task.Met settled.response)
  settled_decided settled is = subst (λ (a : TaskAnswer). IsDecisionOnTask model i a (task.Met settled.response)) (sym is) refl

-- a late task has no response by phases
no_response_in : (response : Option Response) → is_late (answer_with response) ≡ true → option_map (λ (settled : Response). settled.response) response ≡ None
no_response_in (Some response) is = absurd cc
no_response_in None is = refl

pub no_response : (model : SystemModel) (i : ℕ) → i < length model.tasks → is_late (answer_at (tight_answers_of (system_of model)) i) ≡ true
    → option_map (λ (settled : Response). settled.response) (response_by_phase (system_of model) i) ≡ None
no_response model i within late =
    no_response_in (response_by_phase (system_of model) i)
    (ap is_late (sym (phased_answer (system_of model) i (omega (arith, within, count_is model)))) ∙ late)

-- the response by phases is that of the answer
response_given : (response : Option Response) → option_map (λ (settled : Response). settled.response) response ≡ settled_response (answer_with response)
response_given (Some response) = refl
response_given None = refl

pub response_by_answer : (model : SystemModel) (i : ℕ) → i < length model.tasks
    → option_map (λ (settled : Response). settled.response) (response_by_phase (system_of model) i)
    ≡ settled_response (answer_at (tight_answers_of (system_of model)) i)
response_by_answer model i within =
    response_given (response_by_phase (system_of model) i)
    ∙ ap settled_response (sym (phased_answer (system_of model) i (omega (arith, within, count_is model))))

-- ---- requirements

-- where nothing is shown, the value of the verdict is the bound
not_unshown : (test : Bool) (own : ℕ) (value : Option ℕ) → (if test then verdict.Met own else verdict.Broken own) ≡ verdict.Unshown value → ⊥
not_unshown true own value is = cc
not_unshown false own value is = cc

unshown_bound : (test : Bool) (own : ℕ) (value : Option ℕ) → (if test then verdict.Met own else verdict.Unshown (Some own)) ≡ verdict.Unshown value → value ≡ Some own
unshown_bound true own value is = absurd cc
unshown_bound false own value is = cc

unshown_by : (most : ℕ) (is_exact : Bool) (bound value : Option ℕ) → verdict_on most (exact_bound is_exact bound) bound ≡ verdict.Unshown value → value ≡ bound
unshown_by most true (Some own) value is = absurd (not_unshown (nat_le own most) own value is)
unshown_by most true None value is = cc
unshown_by most false (Some own) value is = unshown_bound (nat_le own most) own value is
unshown_by most false None value is = cc

pub unshown_is : (model : SystemModel) (required : RequirementDef) (value : Option ℕ)
    → verdict.Unshown value ≡ tight_verdict_of model (tight_chain_answers_of model) required → value ≡ tight_bound model required
unfolding tight_verdict_of
unshown_is model required value is =
    unshown_by required.most (has_exact_bounds model (required_chain model required)) (tight_bound model required) value (sym is)

module _ (model : SystemModel) (required : RequirementDef) (found : ChainAnswer)
    (is : found ≡ chain_answer_at (tight_chain_answers_of model) (required_chain model required)) where
  -- a chain that is late leaves the requirement without a bound
  pub late_by : (late : ℕ) → found ≡ chain.Late late → IsDecisionOn model required (verdict.Unshown (tight_bound model required)) (requirement.Late late)
  unfolding tight_findings_of
  late_by late named =
      subst (λ (bound : Option ℕ). IsDecisionOn model required (verdict.Unshown bound) (requirement.Late late)) (ap (required_bound required.kind) (sym named ∙ is))
      (record { late = late; is_late = sym is ∙ named; decided = refl })

  -- one with bounds leaves it to what runs show
  pub decided_by_runs : (bounds : Lengths) (decision : Decision) → found ≡ chain.Bounds bounds
      → IsDecisionByRuns model required (limited_bound required.kind bounds) decision
      → IsDecisionOn model required (verdict.Unshown (tight_bound model required)) decision
  decided_by_runs bounds decision named decided =
      subst (λ (bound : Option ℕ). IsDecisionOn model required (verdict.Unshown bound) decision) (ap (required_bound required.kind) (sym named ∙ is)) decided

-- the decision on the requirement of a number, by its verdict as it is found in the list
module _ (model : SystemModel) (i : ℕ) (found : Verdict) (judged : found ≡ verdict_at (tight_findings_of model).verdicts i) where
  abbrev is_decision : Decision → Type 0
  is_decision decision = IsDecisionOn model (requirement_at model i) (verdict_at (tight_findings_of model).verdicts i) decision

  pub met_decided : (bound : ℕ) → found ≡ verdict.Met bound → is_decision (requirement.Met bound)
  met_decided bound is = subst (λ (v : Verdict). IsDecisionOn model (requirement_at model i) v (requirement.Met bound)) (sym is ∙ judged) refl

  pub broken_decided : (bound : ℕ) → found ≡ verdict.Broken bound → IsBrokenBy model (requirement_at model i) bound → is_decision (requirement.Broken bound bound)
  broken_decided bound is broken =
      subst (λ (v : Verdict). IsDecisionOn model (requirement_at model i) v (requirement.Broken bound bound)) (sym is ∙ judged) (refl, broken)

  pub unshown_decided : (value : Option ℕ) → found ≡ verdict.Unshown value → i < length model.requirements → (required : RequirementDef)
      → required ≡ requirement_at model i → {E : Type 0} (result : Result Decision E)
      → IfOk result (IsDecisionOn model required (verdict.Unshown (tight_bound model required))) → IfOk result is_decision
  unshown_decided value is within required asked result decided =
      let bound = unshown_is model (requirement_at model i) value (sym is ∙ judged ∙ verdict_found_is model i within) in
      subst (λ (v : Verdict). IfOk result (IsDecisionOn model (requirement_at model i) v))
      (ap (λ (b : Option ℕ). verdict.Unshown b) (sym bound) ∙ sym is ∙ judged)
      (subst (λ (r : RequirementDef). IfOk result (IsDecisionOn model r (verdict.Unshown (tight_bound model r)))) asked decided)
