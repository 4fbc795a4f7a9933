-- The lines of a chain, by the answer and the measured chains that are found at its place.
use Rattle.std.proofs.Common.{◌≡◌, ℕ, ◌<◌, List, length, map, sym, ap, subst, ◌∙◌}
use Rattle.cl_model.specs.{declared.model.SystemModel.SystemModel, Groups.groups_at}
use Rattle.cl_runs.specs.Measured.{Measured}
use Rattle.cl_analyse.specs.{declared.findings.{ChainAnswer.ChainAnswer, Findings.Findings}, ChainAnswers.chain_answer_at}
use Rattle.cl_chain.specs.declared.job_chain.Measured as own
use Rattle.cl_chain.specs.JobChains.{measured_of}
use Rattle.cl_replay.specs.{Margins.{ChainHasMargins, HaveMargins}, Replay.{measured_at, measured_lines, measured_chain_lines}}

module _ (model : SystemModel) (findings : Findings) (measured : List own.Measured) (i : ℕ) (answer : ChainAnswer) (found : own.Measured)
    (is_answer : answer ≡ chain_answer_at findings.chains i) (is_measured : measured_of found ≡ measured_at (map measured_of measured) i) where
  pub lines_at : measured_lines model i answer (measured_of found) ≡ measured_chain_lines model findings (map measured_of measured) i
  lines_at = ap (λ (a : ChainAnswer). measured_lines model i a (measured_of found)) is_answer ∙ ap (λ (m : Measured). measured_lines model i (chain_answer_at findings.chains i) m) is_measured

  pub margins_at : HaveMargins model findings (map measured_of measured) → i < length model.chains → ChainHasMargins (groups_at model i) answer (measured_of found)
  margins_at have within =
      subst (λ (a : ChainAnswer). ChainHasMargins (groups_at model i) a (measured_of found)) (sym is_answer)
      (subst (λ (m : Measured). ChainHasMargins (groups_at model i) (chain_answer_at findings.chains i) m) (sym is_measured) (have i within))
