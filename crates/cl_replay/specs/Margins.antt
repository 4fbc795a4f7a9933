-- The margins of a replay. Times are in ticks.
use Rattle.std.specs.Prelude.{◌≡◌, ℕ, ◌+◌, ◌<◌, ◌≤◌, Option, Some, None, List, length}
use Rattle.cl_model.specs.{declared.{model.SystemModel.SystemModel, chain.LengthKind.LengthKind, group.Group.Group}, Groups.groups_at}
use Rattle.cl_runs.specs.{Chains.{JobChain, chain_length}, Run.Run, Measured.Measured}
use Rattle.cl_analyse.specs.{declared.findings.{ChainAnswer.ChainAnswer, Findings.Findings}, ChainAnswers.chain_answer_at, Verdicts.bound_value}
use Rattle.cl_replay.specs.Replay.{measured_at, longest_of_kind, margin, IsReplayOf}

-- A measured chain has a job for each group and ends no earlier than it begins. It is at most as long as the bound,
-- where there is one: with its margin it is as long as the bound, so that the margin isn't negative.
pub record HasMargin (groups : List Group) (bound : Option ℕ) (chain : JobChain) : Type 0 where
  pub one_a_group : length chain.jobs ≡ length groups
  pub in_order : chain.from ≤ chain.to
  pub within : (most : ℕ) → bound ≡ Some most → chain_length chain + margin most (chain_length chain) ≡ most

-- so does the longest chain of a kind, if there is one
abbrev pub LongestHasMargin : (groups : List Group) → (bound : Option ℕ) → Option JobChain → Type 0
LongestHasMargin groups bound None = Unit {0}
LongestHasMargin groups bound (Some chain) = HasMargin groups bound chain

-- so do the longest chains of each kind of chain i, of which this is measured
abbrev pub ChainHasMargins : (groups : List Group) → ChainAnswer → Measured → Type 0
ChainHasMargins groups answer measured = (kind : LengthKind) → LongestHasMargin groups (bound_value kind answer) (longest_of_kind kind measured)

-- and those of each chain of the model
abbrev pub HaveMargins : SystemModel → Findings → List Measured → Type 0
HaveMargins model findings measured =
    (i : ℕ) → i < length model.chains → ChainHasMargins (groups_at model i) (chain_answer_at findings.chains i) (measured_at measured i)

-- the text is the replay of a run, and with the margins that it prints each length that has a bound is as long as the
-- bound
pub record IsReplayWithMargins (model : SystemModel) (run : Run) (text : List ℕ) : Type 0 where
  pub is_replay : IsReplayOf model run text
  pub margins : HaveMargins model is_replay.findings is_replay.measured
