-- Requirements: the values that are found for them, and the verdicts.
use Rattle.std.specs.Prelude.{ℕ, Bool, true, false, List, map, slice_index_or, Option, Some, None, nat_le, if◌then◌else◌}
use Rattle.cl_model.specs.declared.{model.SystemModel.SystemModel, chain.{LengthKind.{LengthKind, TheVariants.{Reaction, Age, Reduced}}, RequirementKind.{RequirementKind, TheVariants.{Length, Delay}}, RequirementDef.RequirementDef}}
use Rattle.cl_runs.specs.Requirements.{required_chain}
use Rattle.cl_hop.specs.Bounds.{Lengths}
use Rattle.cl_exact.specs.{declared.witness.Witness.Witness, ExactLengths.Witnesses}
use Rattle.cl_analyse.specs.{declared.findings.{ChainAnswer.ChainAnswer, ExactAnswer.ExactAnswer, Verdict.{Verdict, TheVariants.{Met, Broken, Unshown}}}, ChainAnswers.{chain_answer_at, exact_answer_at}}
use Rattle.cl_analyse.specs.declared.findings.ChainAnswer.TheVariants as bounded
use Rattle.cl_analyse.specs.declared.findings.ExactAnswer.TheVariants as exact

-- ---- kinds of lengths

-- the bound of a kind
abbrev pub bound_of_kind : LengthKind → Lengths → ℕ
bound_of_kind Reaction bounds = bounds.reaction
bound_of_kind Age bounds = bounds.age
bound_of_kind Reduced bounds = bounds.reduced

-- the witness of a kind
abbrev pub witness_of_kind : LengthKind → Witnesses → Witness
witness_of_kind Reaction exact = exact.reaction
witness_of_kind Age exact = exact.age
witness_of_kind Reduced exact = exact.reduced

-- ---- values

-- the bound of a kind, where a chain has bounds
abbrev pub bound_value : LengthKind → ChainAnswer → Option ℕ
bound_value kind (bounded.Bounds bounds) = Some (bound_of_kind kind bounds)
bound_value kind (bounded.Late task) = None

-- the exact length of a kind, where a chain has exact lengths
abbrev pub exact_value : LengthKind → ExactAnswer → Option ℕ
exact_value kind (exact.Exact lengths) = Some (witness_of_kind kind lengths).length
exact_value kind (exact.Past limit) = None
exact_value kind exact.NotTimed = None
exact_value kind exact.ChainLate = None

-- ---- what a requirement limits

-- the bound on it
abbrev pub limited_bound : RequirementKind → Lengths → ℕ
limited_bound (Length kind) bounds = bound_of_kind kind bounds
limited_bound Delay bounds = bounds.delay

-- where its chain has bounds
abbrev pub required_bound : RequirementKind → ChainAnswer → Option ℕ
required_bound kind (bounded.Bounds bounds) = Some (limited_bound kind bounds)
required_bound kind (bounded.Late task) = None

-- its exact value: of a delay none is found
abbrev pub limited_length : RequirementKind → Witnesses → Option ℕ
limited_length (Length kind) lengths = Some (witness_of_kind kind lengths).length
limited_length Delay lengths = None

-- where its chain has exact lengths
abbrev pub required_exact : RequirementKind → ExactAnswer → Option ℕ
required_exact kind (exact.Exact lengths) = limited_length kind lengths
required_exact kind (exact.Past limit) = None
required_exact kind exact.NotTimed = None
required_exact kind exact.ChainLate = None

-- ---- verdicts

-- The value is the exact one where there is one, else the bound. It is met where it is at most what is required, broken
-- where it exceeds that and is exact, and else nothing is shown.
abbrev pub verdict_on : (most : ℕ) → (exact bound : Option ℕ) → Verdict
verdict_on most (Some value) bound = if nat_le value most then Met value else Broken value
verdict_on most None (Some value) = if nat_le value most then Met value else Unshown (Some value)
verdict_on most None None = Unshown None

-- whether a requirement is found met
abbrev pub is_met : Verdict → Bool
is_met (Met value) = true
is_met (Broken value) = false
is_met (Unshown value) = false

-- the verdict on a requirement, by what was found of the chains
unfoldable pub verdict_of :
    SystemModel → (chains : List ChainAnswer) → (exacts : List ExactAnswer) → RequirementDef → Verdict
verdict_of model chains exacts requirement =
    let chain = required_chain model requirement in
    verdict_on requirement.most
    (required_exact requirement.kind (exact_answer_at exacts chain)) (required_bound requirement.kind (chain_answer_at chains chain))

-- the verdicts on all requirements, in file order
abbrev pub verdicts_of : SystemModel → (chains : List ChainAnswer) → (exacts : List ExactAnswer) → List Verdict
verdicts_of model chains exacts = map (verdict_of model chains exacts) model.requirements

-- ---- by number

-- the verdict on the requirement of a number
abbrev pub verdict_at : List Verdict → ℕ → Verdict
verdict_at verdicts i = slice_index_or verdicts i (Unshown None)
