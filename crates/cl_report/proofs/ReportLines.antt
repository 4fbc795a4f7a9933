-- The answers that the lines of a report print.
use Rattle.std.proofs.Common.{◌≡◌, ℕ, ◌<◌, List, [], ◌∷◌, ◌++◌, length, get_or, map, None, sym, ap, ◌∙◌, codes}
use Rattle.std.proofs.lemmas.List.{get_or_default, append_assoc}
use Rattle.std.proofs.Math.ListN.{length-map}
use Rattle.cl_model.specs.{declared.{model.SystemModel.SystemModel, chain.RequirementDef.RequirementDef, group.Group.Group}, Validity.IsValid, Kinds.requirement_word, ByNumber.{no_requirement, requirement_at}}
use Rattle.cl_runs.specs.{TaskTiming.System, SystemOf.{system_of, timing_of}}
use Rattle.cl_bound.specs.{declared.answer.TaskAnswer.TaskAnswer, Answers.{answers_of, answer_to, answer_at}}
use Rattle.cl_bound.specs.declared.answer.TaskAnswer.TheVariants as task
use Rattle.cl_analyse.specs.{declared.findings.{ChainAnswer.ChainAnswer, ExactAnswer.ExactAnswer, Verdict.Verdict, Findings.Findings}, Verdicts.{verdict_of, verdict_at}, ChainAnswers.{chain_answer_of, chain_answer_at, exact_answer_at}, Findings.AreFindings}
use Rattle.cl_analyse.specs.declared.findings.ChainAnswer.TheVariants as chain
use Rattle.cl_exact.specs.ExactLengths.{Witnesses, AreExactLengths}
use Rattle.cl_analyse.specs.declared.findings.ExactAnswer.TheVariants as exact
use Rattle.cl_analyse.specs.declared.findings.Verdict.TheVariants as verdict
use Rattle.cl_analyse.proofs.SafeFindings.{named_task_within}
use Rattle.cl_report.specs.Report.{verdict_words, verdict_line}

-- there is an answer for each task, and one for each chain
pub tasks_found : (model : SystemModel) (findings : Findings) → AreFindings model findings → length findings.tasks ≡ length model.tasks
unfolding answers_of system_of
tasks_found model findings is =
    ap (λ (answers : List TaskAnswer). length answers) is.tasks ∙ length-map (map (timing_of model) model.tasks) (answer_to (system_of model)) ∙ length-map model.tasks (timing_of model)

pub chains_found : (model : SystemModel) (findings : Findings) → AreFindings model findings → length findings.chains ≡ length model.chains
chains_found model findings is = ap (λ (answers : List ChainAnswer). length answers) is.chains ∙ length-map model.chains (chain_answer_of model)

-- an answer that was found in its list
pub task_answer : (answers : List TaskAnswer) (i : ℕ) (answer : TaskAnswer) → i < length answers → answer ≡ get_or answers i answer → answer ≡ answer_at answers i
task_answer answers i answer lt at = at ∙ get_or_default answers i answer task.Late lt

pub chain_answer_in : (answers : List ChainAnswer) (i : ℕ) (answer : ChainAnswer) → i < length answers → answer ≡ get_or answers i answer → answer ≡ chain_answer_at answers i
chain_answer_in answers i answer lt at = at ∙ get_or_default answers i answer (chain.Late 0) lt

pub chain_answer_found : (findings : Findings) (i : ℕ) (answer : ChainAnswer) → i < length findings.chains → answer ≡ get_or findings.chains i answer → answer ≡ chain_answer_at findings.chains i
chain_answer_found findings = chain_answer_in findings.chains

pub chain_within : (model : SystemModel) (findings : Findings) (i : ℕ) → AreFindings model findings → i < length model.chains → i < length findings.chains
chain_within model findings i is lt = rw (chains_found model findings is) lt

-- a late task that is named is a task of the model
pub late_within : (model : SystemModel) (findings : Findings) (i : ℕ) → IsValid model → AreFindings model findings → i < length model.chains
    → (late : ℕ) → chain_answer_at findings.chains i ≡ chain.Late late → late < length model.tasks
late_within model findings i valid is lt late named = named_task_within model valid i late lt (sym (ap (λ (answers : List ChainAnswer). chain_answer_at answers i) is.chains) ∙ named)

-- the answers on exact lengths
pub exact_within : (model : SystemModel) (findings : Findings) (i : ℕ) → AreFindings model findings → i < length model.chains → i < length findings.exacts
exact_within model findings i is lt = rw is.exacts.one_a_chain lt

pub exact_answer_found : (findings : Findings) (i : ℕ) (answer : ExactAnswer) → i < length findings.exacts → answer ≡ get_or findings.exacts i answer
    → answer ≡ exact_answer_at findings.exacts i
exact_answer_found findings i answer lt at = at ∙ get_or_default findings.exacts i answer exact.ChainLate lt

-- the verdicts
pub verdicts_found : (model : SystemModel) (findings : Findings) → AreFindings model findings → length findings.verdicts ≡ length model.requirements
verdicts_found model findings is =
    ap (λ (verdicts : List Verdict). length verdicts) is.verdicts ∙ length-map model.requirements (verdict_of model findings.chains findings.exacts)

pub verdict_found : (verdicts slice : List Verdict) (i : ℕ) → i < length verdicts → slice ≡ verdicts → get_or slice i (verdict.Met 0) ≡ verdict_at verdicts i
verdict_found verdicts slice i lt is = ap (λ (all : List Verdict). get_or all i (verdict.Met 0)) is ∙ get_or_default verdicts i (verdict.Met 0) (verdict.Unshown None) lt

pub requirement_found : (model : SystemModel) (i : ℕ) (requirement : RequirementDef) → i < length model.requirements
    → requirement ≡ get_or model.requirements i requirement → requirement ≡ requirement_at model i
requirement_found model i requirement lt at = at ∙ get_or_default model.requirements i requirement no_requirement lt

-- the witnesses of exact lengths have one job a group
module _ (system : System) (groups : List Group) (lengths : Witnesses) (are : AreExactLengths system groups lengths) where
  pub reaction_jobs : length lengths.reaction.jobs ≡ length groups
  reaction_jobs = are.reaction.longest.is_chain.is_chain.one_a_group

  pub age_jobs : length lengths.age.jobs ≡ length groups
  age_jobs = are.age.longest.is_chain.is_chain.links.one_a_group

  pub reduced_jobs : length lengths.reduced.jobs ≡ length groups
  reduced_jobs = are.reduced.longest.is_chain.is_chain.links.one_a_group

-- the line of a requirement, piece by piece
seven_pieces : (a b c d e f g t0 t1 t2 t3 t4 t5 t6 t7 : List ℕ) → t1 ≡ t0 ++ a → t2 ≡ t1 ++ b → t3 ≡ t2 ++ c → t4 ≡ t3 ++ d → t5 ≡ t4 ++ e → t6 ≡ t5 ++ f → t7 ≡ t6 ++ g
    → t7 ≡ t0 ++ (a ++ b ++ c ++ d ++ e ++ f ++ g)
seven_pieces a b c d e f g t0 t1 t2 t3 t4 t5 t6 t7 h1 h2 h3 h4 h5 h6 h7 =
    rw (h7, h6, h5, h4, h3, h2, h1) (simp append_assoc)

pub judged : (requirement : RequirementDef) (verdict : Verdict) (t0 t1 t2 t3 t4 t5 t6 t7 : List ℕ) → t1 ≡ t0 ++ codes "requirement " → t2 ≡ t1 ++ requirement.name
    → t3 ≡ t2 ++ codes " " → t4 ≡ t3 ++ requirement_word requirement.kind → t5 ≡ t4 ++ codes " " → t6 ≡ t5 ++ verdict_words requirement.most verdict → t7 ≡ t6 ++ 0x0A ∷ []
    → t7 ≡ t0 ++ verdict_line requirement verdict
unfolding verdict_line
judged requirement verdict t0 t1 t2 t3 t4 t5 t6 t7 =
    seven_pieces (codes "requirement ") requirement.name (codes " ") (requirement_word requirement.kind) (codes " ") (verdict_words requirement.most verdict) (0x0A ∷ [])
    t0 t1 t2 t3 t4 t5 t6 t7

-- pieces behind a text are one piece behind it
pub behind_text : (text a b c d : List ℕ) → (((text ++ a) ++ b) ++ c) ++ d ≡ text ++ (((a ++ b) ++ c) ++ d)
behind_text text a b c d = ap (λ t. (t ++ c) ++ d) (append_assoc text a b) ∙ ap (λ t. t ++ d) (append_assoc text (a ++ b) c) ∙ append_assoc text ((a ++ b) ++ c) d
