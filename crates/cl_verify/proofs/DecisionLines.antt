-- The lines of decisions, piece by piece.
use Rattle.std.proofs.Common.{◌≡◌, ℕ, ◌+◌, ◌<◌, Some, None, List, [], ◌∷◌, ◌++◌, length, get_or, refl, sym, ap, ◌∙◌, subst, codes, append_assoc, arith}
use Rattle.std.specs.Prelude.{decimal}
use Rattle.std.proofs.lemmas.List.{get_or_default}
use Rattle.cl_model.specs.{declared.{model.SystemModel.SystemModel, chain.RequirementDef.RequirementDef}, Kinds.requirement_word, ByNumber.{task_at, no_requirement, requirement_at}, Validity.IsValid}
use Rattle.cl_runs.specs.Requirements.{required_chain}
use Rattle.cl_analyse.specs.declared.findings.ChainAnswer.TheVariants as chain
use Rattle.cl_analyse.specs.{declared.findings.Verdict.Verdict, ChainAnswers.chain_answer_at, Verdicts.verdict_at}
use Rattle.cl_analyse.specs.declared.findings.Verdict.TheVariants as verdict
use Rattle.cl_tight.specs.TightFindings.{tight_findings_of}
use Rattle.cl_tight.proofs.{TightLists.required_known, TightLengths.{tight_chains_found, tight_late_known}}
use Rattle.cl_verify.specs.{declared.decision.{TaskDecision.TaskDecision, Decision.Decision, Decisions.Decisions}, Decisions.{IsDecisionByRuns, IsDecisionOn, AreRequirementDecisions, task_decision_at, decision_at}, VerifyText.{met_count, broken_count, unshown_count, sum_line}}
use Rattle.cl_verify.specs.VerifyText.{none_of_words, decision_words, decision_line}
use Rattle.cl_verify.specs.declared.decision.TaskDecision.TheVariants as task
use Rattle.cl_verify.specs.declared.decision.Decision.TheVariants as requirement

three_pieces : (a b c t0 t1 t2 t3 : List ℕ) → t1 ≡ t0 ++ a → t2 ≡ t1 ++ b → t3 ≡ t2 ++ c → t3 ≡ t0 ++ (a ++ b ++ c)
three_pieces a b c t0 t1 t2 t3 h1 h2 h3 = rw (h3, h2, h1) (simp append_assoc)

seven_pieces : (a b c d e f g t0 t1 t2 t3 t4 t5 t6 t7 : List ℕ) → t1 ≡ t0 ++ a → t2 ≡ t1 ++ b → t3 ≡ t2 ++ c → t4 ≡ t3 ++ d → t5 ≡ t4 ++ e → t6 ≡ t5 ++ f
    → t7 ≡ t6 ++ g → t7 ≡ t0 ++ (a ++ b ++ c ++ d ++ e ++ f ++ g)
seven_pieces a b c d e f g t0 t1 t2 t3 t4 t5 t6 t7 h1 h2 h3 h4 h5 h6 h7 = rw (h7, h6, h5, h4, h3, h2, h1) (simp append_assoc)

nine_pieces : (a b c d e f g h i t0 t1 t2 t3 t4 t5 t6 t7 t8 t9 : List ℕ) → t1 ≡ t0 ++ a → t2 ≡ t1 ++ b → t3 ≡ t2 ++ c → t4 ≡ t3 ++ d → t5 ≡ t4 ++ e → t6 ≡ t5 ++ f
    → t7 ≡ t6 ++ g → t8 ≡ t7 ++ h → t9 ≡ t8 ++ i → t9 ≡ t0 ++ (a ++ b ++ c ++ d ++ e ++ f ++ g ++ h ++ i)
nine_pieces a b c d e f g h i t0 t1 t2 t3 t4 t5 t6 t7 t8 t9 h1 h2 h3 h4 h5 h6 h7 h8 h9 =
    rw (h9, h8, h7, h6, h5, h4, h3, h2, h1) (simp append_assoc)

pub same_sum : (a b x y : ℕ) → a ≡ x → b ≡ y → a + b ≡ x + y
same_sum a b x y one other = omega (arith, one, other)

-- the line that says how many lines say what
pub summed : (decisions : Decisions) (t0 t1 t2 t3 t4 t5 t6 t7 : List ℕ) → t1 ≡ t0 ++ codes "sum met " → t2 ≡ t1 ++ decimal (met_count decisions)
    → t3 ≡ t2 ++ codes " broken " → t4 ≡ t3 ++ decimal (broken_count decisions) → t5 ≡ t4 ++ codes " unshown "
    → t6 ≡ t5 ++ decimal (unshown_count decisions) → t7 ≡ t6 ++ 0x0A ∷ [] → t7 ≡ t0 ++ sum_line decisions
unfolding sum_line
summed decisions t0 t1 t2 t3 t4 t5 t6 t7 =
    seven_pieces (codes "sum met ") (decimal (met_count decisions)) (codes " broken ") (decimal (broken_count decisions)) (codes " unshown ")
    (decimal (unshown_count decisions)) (0x0A ∷ []) t0 t1 t2 t3 t4 t5 t6 t7

-- ---- decisions as they are found in their lists

pub task_decision_found : (decisions slice : List TaskDecision) (i : ℕ) (d : TaskDecision) → i < length decisions → slice ≡ decisions
    → get_or slice i d ≡ task_decision_at decisions i
task_decision_found decisions slice i d within same =
    ap (λ (list : List TaskDecision). get_or list i d) same ∙ get_or_default decisions i d task.Broken within

pub decision_found : (decisions slice : List Decision) (i : ℕ) (d : Decision) → i < length decisions → slice ≡ decisions
    → get_or slice i d ≡ decision_at decisions i
decision_found decisions slice i d within same =
    ap (λ (list : List Decision). get_or list i d) same ∙ get_or_default decisions i d (requirement.Late 0) within

-- a decision that names a late task follows from the answer for its chain
pub late_answered : (model : SystemModel) (required : RequirementDef) (found : Verdict) (decision : Decision) (late : ℕ) → IsDecisionOn model required found decision
    → decision ≡ requirement.Late late → chain_answer_at (tight_findings_of model).chains (required_chain model required) ≡ chain.Late late
late_answered model required (verdict.Met own) decision late is named = let same : requirement.Met own ≡ requirement.Late late = sym is ∙ named in absurd cc
late_answered model required (verdict.Broken own) decision late is named =
    let same : requirement.Broken own own ≡ requirement.Late late = sym is.0 ∙ named in absurd cc
late_answered model required (verdict.Unshown (Some own)) decision late is named = absurd (subst (IsDecisionByRuns model required own) named is)
late_answered model required (verdict.Unshown None) decision late is named =
    let same : requirement.Late is.late ≡ requirement.Late late = sym is.decided ∙ named in
    let task : is.late ≡ late = cc in
    is.is_late ∙ ap chain.Late task

-- and so the task is one of the model
pub late_known : (model : SystemModel) → IsValid model → (decisions : List Decision) → AreRequirementDecisions model decisions
    → (i : ℕ) → i < length model.requirements → (late : ℕ) → decision_at decisions i ≡ requirement.Late late → late < length model.tasks
late_known model valid decisions are i within late named =
    tight_late_known model (tight_findings_of model).chains valid (tight_chains_found model (tight_findings_of model) refl)
    (required_chain model (requirement_at model i)) late (required_known model valid i no_requirement within)
    (late_answered model (requirement_at model i) (verdict_at (tight_findings_of model).verdicts i) (decision_at decisions i) late (are.each i within) named)

-- ---- lines

-- what a line says of a requirement without a bound
pub late_words : (model : SystemModel) (most late : ℕ) (decision : Decision) (t0 t1 t2 t3 : List ℕ) → decision ≡ requirement.Late late
    → t1 ≡ t0 ++ none_of_words most → t2 ≡ t1 ++ codes " unshown by " → t3 ≡ t2 ++ (task_at model late).name → t3 ≡ t0 ++ decision_words model most decision
unfolding decision_words
late_words model most late decision t0 t1 t2 t3 is h1 h2 h3 =
    three_pieces (none_of_words most) (codes " unshown by ") (task_at model late).name t0 t1 t2 t3 h1 h2 h3
    ∙ ap (λ (d : Decision). t0 ++ decision_words model most d) (sym is)

-- the line of a requirement
pub decided_line : (model : SystemModel) (required : RequirementDef) (decision : Decision) (t0 t1 t2 t3 t4 t5 t6 t7 t8 t9 : List ℕ)
    → t1 ≡ t0 ++ codes "requirement " → t2 ≡ t1 ++ required.name → t3 ≡ t2 ++ codes " " → t4 ≡ t3 ++ required.chain → t5 ≡ t4 ++ codes " "
    → t6 ≡ t5 ++ requirement_word required.kind → t7 ≡ t6 ++ codes " " → t8 ≡ t7 ++ decision_words model required.most decision
    → t9 ≡ t8 ++ 0x0A ∷ [] → t9 ≡ t0 ++ decision_line model required decision
unfolding decision_line
decided_line model required decision t0 t1 t2 t3 t4 t5 t6 t7 t8 t9 =
    nine_pieces (codes "requirement ") required.name (codes " ") required.chain (codes " ") (requirement_word required.kind) (codes " ")
    (decision_words model required.most decision) (0x0A ∷ []) t0 t1 t2 t3 t4 t5 t6 t7 t8 t9
