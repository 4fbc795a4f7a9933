-- What `verify` comes to.
use Rattle.std.specs.Prelude.{ℕ, List, if◌then◌else◌}
use Rattle.cl_model.specs.declared.model.SystemModel.{SystemModel}
use Rattle.cl_runs.specs.Requirements.{IsInTime}
use Rattle.cl_tight.specs.TightFindings.{tight_findings_of, is_verified}
use Rattle.cl_verify.specs.VerifyText.{IsVerifyTextOf}
use Rattle.cl_engine.specs.{declared.{outcome.Outcome.Outcome, status.TheConstants.{DONE, NOT_VERIFIED}}, Done.HasStatusAndText}

-- the status says whether the model is verified: no task is late by phases, and each requirement is met by its bound
unfoldable pub verify_status : SystemModel → ℕ
verify_status model = if is_verified (tight_findings_of model) then DONE else NOT_VERIFIED

-- the outcome of `verify` for a valid model: this status, and a text that says what is decided of it
abbrev pub IsVerifiedAs : SystemModel → Outcome → Type 0
IsVerifiedAs model found = HasStatusAndText (verify_status model) (IsVerifyTextOf model) found

-- at status 0 the model is in time, and the text says what is decided of it
pub record IsShownInTime (model : SystemModel) (text : List ℕ) : Type 0 where
  pub in_time : IsInTime model
  pub decided : IsVerifyTextOf model text
