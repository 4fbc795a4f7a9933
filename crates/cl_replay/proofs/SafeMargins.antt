-- No margin is negative, since the bounds that are found are safe.
use Rattle.std.proofs.Common.{◌≡◌, ℕ, ◌+◌, ◌-◌, ◌<◌, ◌≤◌, List, length, Option, Some, None, refl, subst, arith}
use Rattle.cl_model.specs.{declared.{model.SystemModel.SystemModel, chain.LengthKind.{LengthKind, TheVariants.{Reaction, Age, Reduced}}}, ByNumber.chain_at, Groups.{groups_of, groups_at, steps_of}, Validity.IsValid}
use Rattle.cl_runs.specs.{Run.Run, SystemOf.system_of, Legal.IsLegal, Chains.{JobChain, chain_length}, RunChains.run_moments, Measured.{Measured, IsMeasuredBy, IsMeasured}, Requirements.IsChainOfKind}
use Rattle.cl_runs.proofs.{ChainsOfRuns.{run_forward_ordered, run_age_ordered, run_reduced_ordered}, ModelSystem.system_sound}
use Rattle.cl_hop.specs.{Bounds.Lengths, Promises.AreAtLeast}
use Rattle.cl_analyse.specs.{declared.findings.{ChainAnswer.{ChainAnswer, TheVariants.{Bounds, Late}}, Findings.Findings}, ChainAnswers.chain_answer_at, Findings.AreFindings, Verdicts.{bound_of_kind, bound_value}}
use Rattle.cl_analyse.proofs.SafeFindings.{findings_safe}
use Rattle.cl_replay.specs.{Margins.{HasMargin, LongestHasMargin, HaveMargins, IsReplayWithMargins}, Replay.{AreMeasured, measured_at, longest_of_kind, IsReplayOf}}

some_same : (m n : ℕ) → Some m ≡ Some n → m ≡ n
some_same m n is = cc

with_margin : (length most : ℕ) → length ≤ most → length + (most - length) ≡ most
with_margin length most few = omega arith

-- a chain that was measured is one of its kind
is_of_kind : (IsChain : JobChain → Type 0) (job_of : JobChain → ℕ) (longest : Option JobChain) (chain : JobChain) → IsMeasuredBy IsChain job_of longest
    → longest ≡ Some chain → IsChain chain
is_of_kind IsChain job_of None chain is some = absurd cc
is_of_kind IsChain job_of (Some own) chain is some =
    let same : own ≡ chain = cc in
    subst IsChain same is.is_chain

module _ (model : SystemModel) (valid : IsValid model) (run : Run) (legal : IsLegal (system_of model) run) (i : ℕ) where
  -- a complete chain of a kind of chain i
  abbrev IsChain : LengthKind → JobChain → Type 0
  IsChain kind = IsChainOfKind kind (run_moments (system_of model) run) (groups_at model i)

  longest_is : (kind : LengthKind) (measured : Measured) (chain : JobChain) → IsMeasured (run_moments (system_of model) run) (groups_at model i) measured
      → longest_of_kind kind measured ≡ Some chain → IsChain kind chain
  longest_is Reaction measured chain is some = is_of_kind _ _ measured.reaction chain is.is_reaction some
  longest_is Age measured chain is some = is_of_kind _ _ measured.age chain is.is_age some
  longest_is Reduced measured chain is some = is_of_kind _ _ measured.reduced chain is.is_reduced some

  job_a_group : (kind : LengthKind) (chain : JobChain) → IsChain kind chain → length chain.jobs ≡ length (groups_at model i)
  job_a_group Reaction chain is = is.one_a_group
  job_a_group Age chain is = is.links.one_a_group
  job_a_group Reduced chain is = is.links.one_a_group

  ends_later : (kind : LengthKind) (chain : JobChain) → IsChain kind chain → chain.from < chain.to
  unfolding groups_of
  ends_later Reaction chain is = run_forward_ordered (system_of model) (system_sound model valid) run legal (steps_of model (chain_at model i)) chain is
  ends_later Age chain is = run_age_ordered (system_of model) (system_sound model valid) run legal (steps_of model (chain_at model i)) chain is
  ends_later Reduced chain is = run_reduced_ordered (system_of model) (system_sound model valid) run legal (steps_of model (chain_at model i)) chain is

  of_kind : (kind : LengthKind) (chain : JobChain) (bounds : Lengths) → IsChain kind chain → AreAtLeast (system_of model) (groups_at model i) bounds run
      → chain_length chain ≤ bound_of_kind kind bounds
  of_kind Reaction chain bounds is at_least = at_least.reaction chain is
  of_kind Age chain bounds is at_least = at_least.age chain is
  of_kind Reduced chain bounds is at_least = at_least.reduced chain is

  module _ (findings : Findings) (found : AreFindings model findings) (within : i < length model.chains) where
    within_bound : (kind : LengthKind) (chain : JobChain) → IsChain kind chain → (answer : ChainAnswer) → chain_answer_at findings.chains i ≡ answer
        → (most : ℕ) → bound_value kind answer ≡ Some most → chain_length chain ≤ most
    within_bound kind chain is (Late task) at most none = absurd cc
    within_bound kind chain is (Bounds bounds) at most some =
        let at_least = (findings_safe model valid findings found).bounds i bounds within at run legal in
        subst (λ m. chain_length chain ≤ m) (some_same (bound_of_kind kind bounds) most some) (of_kind kind chain bounds is at_least)

    has_margin : (kind : LengthKind) (chain : JobChain) → IsChain kind chain
        → HasMargin (groups_at model i) (bound_value kind (chain_answer_at findings.chains i)) chain
    has_margin kind chain is = record {
      one_a_group = job_a_group kind chain is;
      in_order = omega (arith, ends_later kind chain is);
      within = λ most bound. with_margin (chain_length chain) most (within_bound kind chain is (chain_answer_at findings.chains i) refl most bound);
    }

    module _ (measured : Measured) (is : IsMeasured (run_moments (system_of model) run) (groups_at model i) measured) (kind : LengthKind) where
      longest_margin : (longest : Option JobChain) → longest_of_kind kind measured ≡ longest
          → LongestHasMargin (groups_at model i) (bound_value kind (chain_answer_at findings.chains i)) longest
      longest_margin None none = tt
      longest_margin (Some chain) some = has_margin kind chain (longest_is kind measured chain is some)

pub have_margins : (model : SystemModel) → IsValid model → (findings : Findings) → AreFindings model findings → (run : Run) → IsLegal (system_of model) run
    → (measured : List Measured) → AreMeasured model run measured → HaveMargins model findings measured
have_margins model valid findings found run legal measured are = λ i within kind.
    longest_margin model valid run legal i findings found within (measured_at measured i) (are.each i within) kind (longest_of_kind kind (measured_at measured i)) refl

-- so is each replay of a legal run one with margins
pub with_margins : (model : SystemModel) → IsValid model → (run : Run) → IsLegal (system_of model) run → (text : List ℕ) → IsReplayOf model run text
    → IsReplayWithMargins model run text
with_margins model valid run legal text is = record {
  is_replay = is;
  margins = have_margins model valid is.findings is.found run legal is.measured is.are_measured;
}

-- a length that has a margin is within the bound
pub within_most : (length most : ℕ) → length + (most - length) ≡ most → length ≤ most
within_most length most is = omega (arith, is)
