-- What is asked of the findings of a scaled model is what keeping asks.
use Rattle.std.proofs.Common.{◌≡◌, true, false, ℕ, subst}
use Rattle.std.specs.Prelude.{All}
use Rattle.cl_model.specs.{declared.model.SystemModel.SystemModel, Ranges.IsInRange}
use Rattle.cl_bound.specs.{declared.answer.TaskAnswer.TaskAnswer, Answers.is_late}
use Rattle.cl_analyse.specs.{declared.findings.{Findings.Findings, Verdict.Verdict}, Findings.AreFindings, Verdicts.is_met}
use Rattle.cl_analyse.proofs.SafeFindings.{one_findings}
use Rattle.cl_scale.specs.Scaled.{scaled}
use Rattle.cl_tune.specs.Headroom.{Keeps}

-- no task is late, and each requirement is met
abbrev pub IsKept : Findings → Type 0
IsKept findings = (All (λ (answer : TaskAnswer). is_late answer ≡ false) findings.tasks) × (All (λ (verdict : Verdict). is_met verdict ≡ true) findings.verdicts)

module _ (model : SystemModel) (percent : ℕ) (findings : Findings) (found : AreFindings (scaled model percent) findings) where
  pub keeping : IsInRange (scaled model percent) → IsKept findings → Keeps model percent
  keeping in_range kept = record { in_range = in_range; findings = findings; found = found; in_time = kept.0; met = kept.1 }

  pub kept_of : Keeps model percent → IsKept findings
  kept_of keeps = subst IsKept (one_findings (scaled model percent) keeps.findings findings keeps.found found) (keeps.in_time, keeps.met)
