-- The headroom of a model: how far its greatest execution times may be scaled.
use Rattle.std.specs.Prelude.{◌≡◌, ℕ, ◌<◌, ◌≤◌, true, false, All, Option, Some, None, IfSome}
use Rattle.cl_model.specs.{declared.model.SystemModel.SystemModel, Ranges.IsInRange}
use Rattle.cl_bound.specs.{declared.answer.TaskAnswer.TaskAnswer, Answers.is_late}
use Rattle.cl_analyse.specs.{declared.findings.{Findings.Findings, Verdict.Verdict}, Findings.AreFindings, Verdicts.is_met}
use Rattle.cl_scale.specs.{declared.percent.TheConstants.MOST_PERCENT, Scaled.scaled}

-- a percentage keeps: the model that it scales is in range, none of its tasks is late, and each requirement is met
pub record Keeps (model : SystemModel) (percent : ℕ) : Type 0 where
  pub in_range : IsInRange (scaled model percent)
  pub findings : Findings
  pub found : AreFindings (scaled model percent) findings
  pub in_time : All (λ (answer : TaskAnswer). is_late answer ≡ false) findings.tasks
  pub met : All (λ (verdict : Verdict). is_met verdict ≡ true) findings.verdicts

-- the greatest percentage that keeps, from 1 up to the most
pub record IsGreatestKept (model : SystemModel) (percent : ℕ) : Type 0 where
  pub some : 1 ≤ percent
  pub few : percent ≤ MOST_PERCENT
  pub kept : Keeps model percent
  pub greatest : (other : ℕ) → percent < other → other ≤ MOST_PERCENT → Keeps model other → ⊥

-- the headroom is the greatest percentage that keeps, and there is none exactly where 1 percent doesn't
abbrev pub IsHeadroom : SystemModel → Option ℕ → Type 0
IsHeadroom model None = Keeps model 1 → ⊥
IsHeadroom model (Some percent) = IsGreatestKept model percent

-- each smaller percentage keeps as well, where there is a headroom
abbrev pub SmallerKeep : SystemModel → Option ℕ → Type 0
SmallerKeep model headroom = IfSome headroom (λ percent. (less : ℕ) → less ≤ percent → Keeps model less)
