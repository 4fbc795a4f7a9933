-- What `verify` ends with.
use Rattle.std.proofs.Common.{◌≡◌, inl, inr, Bool, true, false, refl, sym, ap, arith}
use Rattle.std.specs.Prelude.{if◌then◌else◌}
use Rattle.cl_model.specs.declared.model.SystemModel.{SystemModel}
use Rattle.cl_tight.specs.TightFindings.{tight_findings_of, is_verified}
use Rattle.cl_engine.specs.{declared.status.TheConstants.{DONE, NOT_VERIFIED}, Language.IsOfContent}
use Rattle.cl_top.specs.Verified.{verify_status}

-- where the model is verified and where it isn't
pub verified_ends : (model : SystemModel) → is_verified (tight_findings_of model) ≡ true → DONE ≡ verify_status model
unfolding verify_status
verified_ends model is = ap (λ (verified : Bool). if verified then DONE else NOT_VERIFIED) (sym is)

pub unverified_ends : (model : SystemModel) → is_verified (tight_findings_of model) ≡ false → NOT_VERIFIED ≡ verify_status model
unfolding verify_status
unverified_ends model is = ap (λ (verified : Bool). if verified then DONE else NOT_VERIFIED) (sym is)

-- it is of content
status_by : (verified : Bool) → IsOfContent (if verified then DONE else NOT_VERIFIED)
status_by true = inl refl
status_by false = inr (inr (omega arith))

pub verify_content : (model : SystemModel) → IsOfContent (verify_status model)
unfolding verify_status
verify_content model = status_by (is_verified (tight_findings_of model))

-- it is status 0 only where the model is verified
done_by : (verified : Bool) → (if verified then DONE else NOT_VERIFIED) ≡ DONE → verified ≡ true
done_by true is = refl
done_by false is = absurd (omega (arith, is))

pub verified_at_done : (model : SystemModel) → verify_status model ≡ DONE → is_verified (tight_findings_of model) ≡ true
unfolding verify_status
verified_at_done model is = done_by (is_verified (tight_findings_of model)) is
