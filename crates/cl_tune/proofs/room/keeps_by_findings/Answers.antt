use Rattle.std.proofs.Common.{◌≡◌, ℕ, Bool, true, false, sym, ◌∙◌, subst}
use Rattle.std.specs.Prelude.{MatchBool}
use Rattle.std.proofs.lemmas.Bool.{cases_from_iff}
use Rattle.cl_model.specs.{declared.model.SystemModel.SystemModel, Ranges.IsInRange, Validity.IsValid}
use Rattle.cl_analyse.specs.{declared.findings.Findings.Findings, Findings.AreFindings}
use Rattle.cl_scale.specs.Scaled.{scaled}
use Rattle.cl_scale.proofs.ScaledValid.{scaled_valid}
use Rattle.cl_tune.specs.Headroom.{Keeps}
use Rattle.cl_tune.proofs.KeptFindings.{IsKept, keeping, kept_of}
use Rattle.cl_tune.proofs.room.keeps_by_findings.Goals as goal

module _ (model : SystemModel) (percent : ℕ) (in_range : IsInRange (scaled model percent)) (findings : Findings)
    (found : AreFindings (scaled model percent) findings) where
  either : (kept : Bool) → MatchBool kept (IsKept findings) (IsKept findings → ⊥) → MatchBool kept (Keeps model percent) (Keeps model percent → ⊥)
  either true is = keeping model percent findings found in_range is
  either false is = λ keeps. is (kept_of model percent findings found keeps)

pub scaled-requires-clause-in_range : goal.scaled-requires-clause-in_range
scaled-requires-clause-in_range g c = c.requires.valid.in_range

pub adopted-requires : goal.adopted-requires
adopted-requires g c =
    subst (λ (m : SystemModel). IsValid m) (sym c.in_ok-scaled.ensures)
    (scaled_valid c.args.model.now c.args.percent c.requires.valid c.requires.in_range)

pub returns : goal.returns
returns g c =
    let copy : c.in_ok-scaled.scaled ≡ scaled c.args.model.now c.args.percent = c.in_ok-scaled.ensures in
    either c.args.model.now c.args.percent c.requires.in_range c.in_ok-findings.findings
    (subst (λ (m : SystemModel). AreFindings m c.in_ok-findings.findings) (c.in_ok-scaled-2.ensures ∙ copy) c.in_ok-findings.ensures.findings)
    c.is_kept.result (cases_from_iff c.is_kept.ensures)
