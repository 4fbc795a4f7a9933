-- What is found of each chain of a model: its bounds and its exact lengths.
use Rattle.std.specs.Prelude.{◌≡◌, ℕ, ◌<◌, Bool, true, false, List, length, map, slice_index_or, find, Option, Some, None}
use Rattle.std.specs.Option.{option_map}
use Rattle.cl_model.specs.{declared.{model.SystemModel.SystemModel, chain.ChainDef.ChainDef, group.Step.Step}, ByNumber.chain_at, Groups.{steps_of, groups_of, groups_at}}
use Rattle.cl_runs.specs.SystemOf.{system_of}
use Rattle.cl_hop.specs.Bounds.{Lengths}
use Rattle.cl_bound.specs.{declared.answer.TaskAnswer.TaskAnswer, Answers.{answers_of, answer_at, is_late}, Bounds.bounds_of}
use Rattle.cl_exact.specs.{TimedPeriodic.is_timed_periodic_chain, Hyperperiod.{hyper_limit, IsWithinLimit, IsPastLimit}, ExactLengths.AreExactLengths}
use Rattle.cl_analyse.specs.declared.findings.{ChainAnswer.{ChainAnswer, TheVariants.{Bounds, Late}}, ExactAnswer.{ExactAnswer, TheVariants.{Exact, Past, NotTimed, ChainLate}}}

-- ---- bounds

-- the first task along steps that is late, if there is one
abbrev pub first_late : List TaskAnswer → List Step → Option ℕ
first_late answers steps = option_map (λ (step : Step). step.task) (find (λ (step : Step). is_late (answer_at answers step.task)) steps)

-- the answer for a chain: its bounds where none of its tasks is late, else the first late one
abbrev pub chain_answer : (first_late : Option ℕ) → (bounds : Lengths) → ChainAnswer
chain_answer None bounds = Bounds bounds
chain_answer (Some task) bounds = Late task

unfoldable pub chain_answer_of : SystemModel → ChainDef → ChainAnswer
chain_answer_of model chain =
    chain_answer (first_late (answers_of (system_of model)) (steps_of model chain)) (bounds_of (system_of model) (groups_of model chain))

-- the answers for all chains, in file order
abbrev pub chain_answers_of : SystemModel → List ChainAnswer
chain_answers_of model = map (chain_answer_of model) model.chains

-- the answer for the chain of a number
abbrev pub chain_answer_at : List ChainAnswer → (chain : ℕ) → ChainAnswer
chain_answer_at answers chain = slice_index_or answers chain (Late 0)

-- a fact of a chain that is late
abbrev pub OnLate : ChainAnswer → (fact : Type 0) → Type 0
OnLate (Bounds bounds) fact = Unit {0}
OnLate (Late task) fact = fact

-- ---- exact lengths

-- the answer for the chain of a number
abbrev pub exact_answer_at : List ExactAnswer → (chain : ℕ) → ExactAnswer
exact_answer_at answers chain = slice_index_or answers chain ChainLate

-- The answer for a chain none of whose tasks is late, by whether its tasks are all timed and periodic: its exact
-- lengths where its hyperperiod is within the limit, else the limit.
abbrev pub IsTimelyAnswer : SystemModel → (chain : ℕ) → (timed_periodic : Bool) → ExactAnswer → Type 0
IsTimelyAnswer model chain false answer = answer ≡ NotTimed
IsTimelyAnswer model chain true (Exact lengths) =
    IsWithinLimit (system_of model) (groups_at model chain)
    × AreExactLengths (system_of model) (groups_at model chain) lengths
IsTimelyAnswer model chain true (Past limit) =
    IsPastLimit (system_of model) (groups_at model chain)
    × (limit ≡ hyper_limit (system_of model) (groups_at model chain))
IsTimelyAnswer model chain true NotTimed = ⊥
IsTimelyAnswer model chain true ChainLate = ⊥

-- the answer for a chain, by the answer on its bounds
abbrev pub IsExactAnswer : SystemModel → (chain : ℕ) → ChainAnswer → ExactAnswer → Type 0
IsExactAnswer model chain (Late task) answer = answer ≡ ChainLate
IsExactAnswer model chain (Bounds bounds) answer = IsTimelyAnswer model chain (is_timed_periodic_chain model chain) answer

-- the answers for all chains, in file order
pub record AreExactAnswers (model : SystemModel) (answers : List ExactAnswer) : Type 0 where
  pub one_a_chain : length answers ≡ length model.chains
  pub each : (chain : ℕ) → chain < length model.chains
      → IsExactAnswer model chain (chain_answer_of model (chain_at model chain)) (exact_answer_at answers chain)
