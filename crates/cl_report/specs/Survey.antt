-- The survey of a model: how many of its tasks and chains were found how, and the sums of the bounds.
use Rattle.std.specs.Prelude.{◌≡◌, ℕ, Bool, true, false, not, List, ◌++◌, length, count_by, sum_by, codes, decimal, unwrap_or}
use Rattle.cl_text.specs.Line.{line}
use Rattle.cl_model.specs.declared.{chain.LengthKind.{LengthKind, TheVariants.{Reaction, Age, Reduced}}, model.SystemModel.SystemModel}
use Rattle.cl_bound.specs.{declared.answer.TaskAnswer.TaskAnswer, Answers.is_late}
use Rattle.cl_analyse.specs.{declared.findings.{ChainAnswer.ChainAnswer, ExactAnswer.ExactAnswer, Findings.Findings}, Verdicts.bound_value, Findings.AreFindings}
use Rattle.cl_analyse.specs.declared.findings.ChainAnswer.TheVariants as chain
use Rattle.cl_analyse.specs.declared.findings.ExactAnswer.TheVariants as exact

-- ---- what is counted

-- a task that isn't late
abbrev pub is_settled : TaskAnswer → Bool
is_settled answer = not (is_late answer)

-- a chain that has bounds
abbrev pub is_bounded : ChainAnswer → Bool
is_bounded (chain.Bounds bounds) = true
is_bounded (chain.Late task) = false

-- a chain that has none, since a task of it is late
abbrev pub is_unbounded : ChainAnswer → Bool
is_unbounded answer = not (is_bounded answer)

-- a chain that has exact lengths
abbrev pub is_exact : ExactAnswer → Bool
is_exact (exact.Exact lengths) = true
is_exact (exact.Past limit) = false
is_exact exact.NotTimed = false
is_exact exact.ChainLate = false

-- a chain whose hyperperiod exceeds the limit
abbrev pub is_past : ExactAnswer → Bool
is_past (exact.Exact lengths) = false
is_past (exact.Past limit) = true
is_past exact.NotTimed = false
is_past exact.ChainLate = false

-- the sum of the bounds of a kind, over the chains that have bounds
abbrev pub bound_sum : LengthKind → List ChainAnswer → ℕ
bound_sum kind answers = sum_by (λ answer. unwrap_or (bound_value kind answer) 0) answers

-- ---- lines

-- a word and a number
abbrev pub counted_line : (word : List ℕ) (n : ℕ) → List ℕ
counted_line word n = word ++ decimal n

unfoldable pub tasks_line : List TaskAnswer → List ℕ
tasks_line answers =
    line (counted_line (codes "tasks ") (length answers) ++ counted_line (codes " settled ") (count_by is_settled answers)
    ++ counted_line (codes " late ") (count_by is_late answers))

unfoldable pub chains_line : List ChainAnswer → List ℕ
chains_line answers =
    line (counted_line (codes "chains ") (length answers) ++ counted_line (codes " bounded ") (count_by is_bounded answers)
    ++ counted_line (codes " late ") (count_by is_unbounded answers))

unfoldable pub exacts_line : List ExactAnswer → List ℕ
exacts_line answers = line (counted_line (codes "exact ") (count_by is_exact answers) ++ counted_line (codes " past ") (count_by is_past answers))

unfoldable pub sums_line : List ChainAnswer → List ℕ
sums_line answers =
    line (counted_line (codes "sums reaction ") (bound_sum Reaction answers) ++ counted_line (codes " age ") (bound_sum Age answers)
    ++ counted_line (codes " reduced ") (bound_sum Reduced answers))

-- ---- the survey

-- the survey of these findings
unfoldable pub survey_text : Findings → List ℕ
survey_text findings =
    line (codes "chainlat survey 1") ++ tasks_line findings.tasks ++ chains_line findings.chains ++ exacts_line findings.exacts ++ sums_line findings.chains

-- the text is the survey of the model's findings
pub record IsSurveyOf (model : SystemModel) (text : List ℕ) : Type 0 where
  pub findings : Findings
  pub found : AreFindings model findings
  pub printed : text ≡ survey_text findings
