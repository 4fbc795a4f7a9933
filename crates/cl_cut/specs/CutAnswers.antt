-- What is answered of the cuts of a chain, and what it promises. Times are in ticks.
use Rattle.std.specs.Prelude.{◌≡◌, ℕ, ◌<◌, ◌≤◌, true, List, length, slice_index_or, Option, Some, None}
use Rattle.cl_model.specs.{declared.{group.Group.Group, model.SystemModel.SystemModel}, ByNumber.chain_at, Groups.{steps_of, groups_at}}
use Rattle.cl_runs.specs.{TaskTiming.System, SystemOf.system_of, Run.Run, Legal.IsLegal, Chains.{JobChain, chain_length, IsForwardChain}, RunChains.run_moments}
use Rattle.cl_bound.specs.{Answers.answers_of, Bounds.bounds_of}
use Rattle.cl_exact.specs.{TimedPeriodic.are_timed_periodic, Hyperperiod.IsWithinLimit, ExactLengths.{Witnesses, AreExactLengths}}
use Rattle.cl_analyse.specs.ChainAnswers.{first_late}
use Rattle.cl_cut.specs.{declared.answer.CutAnswer.{CutAnswer, TheVariants.{Cut, Late}}, Cuts.IsBestCut}

-- the first late task along the steps of a chain, if there is one
abbrev pub late_task_of : SystemModel → (chain : ℕ) → Option ℕ
late_task_of model chain = first_late (answers_of (system_of model)) (steps_of model (chain_at model chain))

-- the answer for a chain: its best cut with the cost of it where none of its tasks is late, else the first late one
abbrev pub IsCutAnswer : SystemModel → (chain : ℕ) → CutAnswer → Type 0
IsCutAnswer model chain (Cut bound pieces) =
    (late_task_of model chain ≡ None) × IsBestCut (system_of model) (groups_at model chain) pieces bound
IsCutAnswer model chain (Late task) = late_task_of model chain ≡ Some task

-- in every legal run, of any length, no complete forward chain is longer
abbrev pub IsSafeReaction : System → List Group → (most : ℕ) → Type 0
IsSafeReaction system groups most = (run : Run) → IsLegal system run
    → (chain : JobChain) → IsForwardChain (run_moments system run) groups chain → chain_length chain ≤ most

-- at most the bound on the reaction of the uncut chain, and at most its exact reaction where it has one within the
-- limit
pub record IsNoWorse (system : System) (groups : List Group) (cost : ℕ) : Type 0 where
  pub bound : cost ≤ (bounds_of system groups).reaction
  pub exact : (exact : Witnesses) → are_timed_periodic system groups ≡ true → IsWithinLimit system groups
      → AreExactLengths system groups exact → cost ≤ exact.reaction.length

-- the cost of the cut is safe, where there is one
abbrev pub IsSafeAnswer : SystemModel → (chain : ℕ) → CutAnswer → Type 0
IsSafeAnswer model chain (Cut bound pieces) = IsSafeReaction (system_of model) (groups_at model chain) bound
IsSafeAnswer model chain (Late task) = Unit {0}

-- and no worse than what is found of the uncut chain
abbrev pub IsNoWorseAnswer : SystemModel → (chain : ℕ) → CutAnswer → Type 0
IsNoWorseAnswer model chain (Cut bound pieces) = IsNoWorse (system_of model) (groups_at model chain) bound
IsNoWorseAnswer model chain (Late task) = Unit {0}

-- ---- all chains of a model

-- the answer for the chain of a number
abbrev pub cut_answer_at : List CutAnswer → (chain : ℕ) → CutAnswer
cut_answer_at answers chain = slice_index_or answers chain (Late 0)

-- the answers for all chains, in file order
pub record AreCutAnswers (model : SystemModel) (answers : List CutAnswer) : Type 0 where
  pub one_a_chain : length answers ≡ length model.chains
  pub each : (chain : ℕ) → chain < length model.chains → IsCutAnswer model chain (cut_answer_at answers chain)

-- the costs of the cuts are safe
abbrev pub AreSafeAnswers : SystemModel → List CutAnswer → Type 0
AreSafeAnswers model answers =
    (chain : ℕ) → chain < length model.chains → IsSafeAnswer model chain (cut_answer_at answers chain)

-- and no worse than what is found of the uncut chains
abbrev pub AreNoWorseAnswers : SystemModel → List CutAnswer → Type 0
AreNoWorseAnswers model answers =
    (chain : ℕ) → chain < length model.chains → IsNoWorseAnswer model chain (cut_answer_at answers chain)
