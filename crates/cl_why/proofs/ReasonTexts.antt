-- Texts of reasons, part by part, and the answers that they are of.
use Rattle.std.proofs.Common.{◌≡◌, ℕ, ◌<◌, Option, List, ◌++◌, length, get_or, map, refl, sym, ap, ◌∙◌, subst}
use Rattle.std.specs.Prelude.{IfSome}
use Rattle.std.proofs.lemmas.List.{get_or-map}
use Rattle.cl_model.specs.{declared.{model.SystemModel.SystemModel, chain.{RequirementKind.RequirementKind, RequirementDef.RequirementDef}, group.Group.Group}, ByNumber.{no_chain, chain_at, no_requirement, requirement_at}, Groups.groups_at, Validity.IsValid}
use Rattle.cl_runs.specs.{Requirements.{required_chain, HasLength}, SystemOf.system_of}
use Rattle.cl_hop.specs.{Bounds.Lengths, declared.group_timing.GroupTiming.GroupTiming}
use Rattle.cl_bound.specs.{Answers.{answer_at, NoneIsLate}, declared.answer.TaskAnswer.TaskAnswer}
use Rattle.cl_phase.specs.{TightBounds.tight_bounds, declared.whole.WholeWalk.WholeWalk, Whole.IsWholeWalkOf}
use Rattle.cl_analyse.specs.{declared.findings.ChainAnswer.{ChainAnswer, TheVariants.{Bounds, Late}}, Verdicts.{limited_bound, verdict_at}}
use Rattle.cl_tight.specs.{declared.findings.TightFindings.TightFindings, TightTimings.tight_timing, TightFindings.{tight_chain_answer_of, tight_chain_answers_of, tight_findings_of}}
use Rattle.cl_tight.proofs.{TightChains.tight_given, TightLists.required_known, TightLengths.{tight_chains_found, tight_late_known}}
use Rattle.cl_report.specs.Report.{chain_line}
use Rattle.cl_verify.specs.{declared.decision.{TaskDecision.TaskDecision, Decision.Decision}, Decisions.{IsDecisionOnTask, IsDecisionOn}, VerifyText.{task_decision_line, decision_line}}
use Rattle.cl_verify.specs.declared.decision.Decision.TheVariants as requirement
use Rattle.cl_verify.proofs.{ByFindings.{tasks_of_findings, chain_found}, DecisionLines.late_answered}
use Rattle.cl_why.specs.{declared.window.Window.Window, Shares.window_lines, Hops.why_group_lines, Walks.why_walk_lines, Inner.{IsWindowOf, HasJobsOf}, Reasons.{title, bound_line, IsReasonOfTask, IsReasonOfBound, IsReasonBy, IsReasonOfChain, IsWhyOfRequirement, Appends}}
use Rattle.cl_why.proofs.TimedGroups.{two_pieces, three_pieces}

-- ---- of a task

pub reason_of_task : (model : SystemModel) (task : ℕ) (decision : TaskDecision) (window : Window) (t0 t1 t2 : List ℕ)
    → IsDecisionOnTask model task (answer_at (tight_findings_of model).tasks task) decision → IsWindowOf model task window
    → t1 ≡ t0 ++ task_decision_line model decision task → t2 ≡ t1 ++ window_lines model window.task window.worst
    → Appends (IsReasonOfTask model task) t0 t2
reason_of_task model task decision window t0 t1 t2 decided is h1 h2 = record {
  lines = task_decision_line model decision task ++ window_lines model task window.worst;
  holds = record { decision = decision; decided = decided; window = window.worst; is_worst = is.is_worst; printed = refl };
  joined = two_pieces (task_decision_line model decision task) (window_lines model task window.worst) t0 t1 t2 h1
      (h2 ∙ ap (λ (n : ℕ). t1 ++ window_lines model n window.worst) is.of_task);
}

-- ---- of a chain

-- the answer for a chain, as it is found in the list
pub tight_answer_found : (model : SystemModel) (findings : TightFindings) (slice : List ChainAnswer) (chain : ℕ) (found : ChainAnswer) → findings ≡ tight_findings_of model
    → slice ≡ findings.chains → chain < length model.chains → found ≡ get_or slice chain found → found ≡ tight_chain_answer_of model (chain_at model chain)
tight_answer_found model findings slice chain found is same within at =
    chain_found model findings slice chain found is same within at
    ∙ get_or-map (tight_chain_answer_of model) model.chains chain no_chain (Late 0) within

-- what bounds that are found say of the chain
pub bounds_found : (model : SystemModel) (findings : TightFindings) (slice : List ChainAnswer) (chain : ℕ) (found : ChainAnswer) (bounds : Lengths) → IsValid model
    → findings ≡ tight_findings_of model → slice ≡ findings.chains → chain < length model.chains → found ≡ get_or slice chain found → found ≡ Bounds bounds
    → NoneIsLate findings.tasks (groups_at model chain)
    × (tight_bounds (system_of model) (tight_timing (system_of model)) (groups_at model chain) ≡ bounds)
bounds_found model findings slice chain found bounds valid is same within at named =
    let given = tight_given model valid chain within bounds (sym (chain_found model findings slice chain found is same within at) ∙ named) in
    (subst (λ (answers : List TaskAnswer). NoneIsLate answers (groups_at model chain)) (sym (tasks_of_findings model findings is)) given.0, given.1)

-- a late task that is found is one of the model
pub late_found : (model : SystemModel) (findings : TightFindings) (slice : List ChainAnswer) (chain : ℕ) (found : ChainAnswer) (late : ℕ) → IsValid model
    → findings ≡ tight_findings_of model → slice ≡ findings.chains → chain < length model.chains → found ≡ get_or slice chain found → found ≡ Late late
    → late < length model.tasks
late_found model findings slice chain found late valid is same within at named =
    tight_late_known model (tight_chain_answers_of model) valid refl chain late within (sym (chain_found model findings slice chain found is same within at) ∙ named)

pub reason_by_bounds : (model : SystemModel) (chain : ℕ) (kind : RequirementKind) (bounds : Lengths) (bound : ℕ) (answer : ChainAnswer) (t0 t1 : List ℕ)
    → answer ≡ tight_chain_answer_of model (chain_at model chain) → answer ≡ Bounds bounds → bound ≡ limited_bound kind bounds
    → Appends (IsReasonOfBound model chain kind bound) t0 t1 → Appends (IsReasonOfChain model chain kind) t0 t1
reason_by_bounds model chain kind bounds bound answer t0 t1 found named is reason = record {
  lines = reason.lines;
  holds = subst (λ (a : ChainAnswer). IsReasonBy model chain kind a reason.lines) (sym named ∙ found)
      (subst (λ (n : ℕ). IsReasonOfBound model chain kind n reason.lines) is reason.holds);
  joined = reason.joined;
}

pub reason_by_late : (model : SystemModel) (chain : ℕ) (kind : RequirementKind) (late : ℕ) (answer : ChainAnswer) (t0 t1 t2 : List ℕ)
    → answer ≡ tight_chain_answer_of model (chain_at model chain) → answer ≡ Late late → t1 ≡ t0 ++ chain_line model answer chain
    → Appends (IsReasonOfTask model late) t1 t2 → Appends (IsReasonOfChain model chain kind) t0 t2
reason_by_late model chain kind late answer t0 t1 t2 found named h1 reason = record {
  lines = chain_line model (Late late) chain ++ reason.lines;
  holds = subst (λ (a : ChainAnswer). IsReasonBy model chain kind a (chain_line model (Late late) chain ++ reason.lines)) (sym named ∙ found)
      (record { lines = reason.lines; holds = reason.holds; joined = refl });
  joined = two_pieces (chain_line model (Late late) chain) reason.lines t0 t1 t2
      (h1 ∙ ap (λ (a : ChainAnswer). t0 ++ chain_line model a chain) named) reason.joined;
}

-- ---- of a bound

-- a walk along the groups of a chain has two jobs of each
pub jobs_of_groups : (model : SystemModel) (chain : ℕ) (groups : List Group) (walk : WholeWalk) → groups ≡ groups_at model chain
    → length walk.kept ≡ length groups → length walk.missed ≡ length groups → length walk.taken ≡ length groups
    → HasJobsOf (groups_at model chain) walk
jobs_of_groups model chain groups walk same kept missed taken =
    let as_many = ap (λ (list : List Group). length list) same in
    record { kept = kept ∙ as_many; missed = missed ∙ as_many; taken = taken ∙ as_many }

pub reason_of_bound : (model : SystemModel) (chain : ℕ) (kind : RequirementKind) (bound : ℕ) (seen : Option ℕ) (walk : WholeWalk)
    (groups : List Group) (timings : List GroupTiming) (t0 t1 t2 t3 : List ℕ) → IfSome seen (HasLength model chain kind)
    → groups ≡ groups_at model chain → timings ≡ map (tight_timing (system_of model)) (groups_at model chain)
    → ((timing : Group → GroupTiming) → timings ≡ map timing groups → IsWholeWalkOf (system_of model) timing groups kind bound walk)
    → t1 ≡ t0 ++ bound_line model chain kind bound seen → t2 ≡ t1 ++ why_group_lines model chain walk → t3 ≡ t2 ++ why_walk_lines model chain walk kind
    → Appends (IsReasonOfBound model chain kind bound) t0 t3
reason_of_bound model chain kind bound seen walk groups timings t0 t1 t2 t3 occurs same are each h1 h2 h3 = record {
  lines = bound_line model chain kind bound seen ++ why_group_lines model chain walk ++ why_walk_lines model chain walk kind;
  holds = record {
    seen = seen;
    occurs = occurs;
    walk = walk;
    is_walk = subst (λ (list : List Group). IsWholeWalkOf (system_of model) (tight_timing (system_of model)) list kind bound walk) same
        (each (tight_timing (system_of model)) (are ∙ ap (λ (list : List Group). map (tight_timing (system_of model)) list) (sym same)));
    printed = refl;
  };
  joined = three_pieces (bound_line model chain kind bound seen) (why_group_lines model chain walk) (why_walk_lines model chain walk kind) t0 t1 t2 t3 h1 h2 h3;
}

-- ---- of a requirement

-- the late task that a decision names is one of the model
pub named_late_known : (model : SystemModel) (i : ℕ) (decision : Decision) (late : ℕ) → IsValid model → i < length model.requirements
    → IsDecisionOn model (requirement_at model i) (verdict_at (tight_findings_of model).verdicts i) decision → decision ≡ requirement.Late late
    → late < length model.tasks
named_late_known model i decision late valid within decided named =
    tight_late_known model (tight_findings_of model).chains valid (tight_chains_found model (tight_findings_of model) refl)
    (required_chain model (requirement_at model i)) late (required_known model valid i no_requirement within)
    (late_answered model (requirement_at model i) (verdict_at (tight_findings_of model).verdicts i) decision late decided named)

pub reason_of_requirement : (model : SystemModel) (i chain : ℕ) (required : RequirementDef) (decision : Decision) (t0 t1 t2 : List ℕ) → t0 ≡ title
    → required ≡ requirement_at model i → chain ≡ required_chain model required
    → IsDecisionOn model (requirement_at model i) (verdict_at (tight_findings_of model).verdicts i) decision
    → t1 ≡ t0 ++ decision_line model required decision → Appends (IsReasonOfChain model chain required.kind) t1 t2
    → IsWhyOfRequirement model i t2
reason_of_requirement model i chain required decision t0 t1 t2 begun asked of_chain decided h1 reason =
    let here = subst (λ (n : ℕ). Appends (IsReasonOfChain model n required.kind) t1 t2) of_chain reason in
    let of_asked = subst (λ (r : RequirementDef). Appends (IsReasonOfChain model (required_chain model r) r.kind) t1 t2) asked here in
    record {
      decision = decision;
      decided = decided;
      printed = subst (λ (t : List ℕ). Appends (IsReasonOfChain model (required_chain model (requirement_at model i)) (requirement_at model i).kind) t t2)
          (h1 ∙ ap (λ (t : List ℕ). t ++ decision_line model required decision) begun
          ∙ ap (λ (r : RequirementDef). title ++ decision_line model r decision) asked) of_asked;
    }
