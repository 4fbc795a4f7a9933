-- `check`: what to mend in a model file, or what to know of it.
use Rattle.std.proofs.Common.{◌≡◌, ◌⊎◌, ℕ, ◌+◌, ◌≤◌, inl, inr, List, Option, Some, None, Result, Ok, Err, refl, sym, ◌∙◌, arith}
use Rattle.cl_model.specs.{declared.{model.SystemModel.SystemModel, refusal.Refusal.Refusal}, Reading.model_of, Validity.refusal_of}
use Rattle.cl_advice.proofs.SomeAdvice.{some_advice}
use Rattle.cl_explain.specs.Accepted.{accepted_text}
use Rattle.cl_explain.proofs.SafelyExplained.{safe_acceptance}
use Rattle.cl_engine.specs.declared.files.Files.TheVariants as files
use Rattle.cl_engine.specs.{declared.{outcome.Outcome.Outcome, status.TheConstants.{DONE, MODEL_REFUSED}}, Content.{Bytes, MeansModel, of_bytes}, Outcome.{refusal_line, MayEnd}}
use Rattle.cl_engine.proofs.Openings.{valid_read}
use Rattle.cl_top.specs.Commands.Check.{IsAdvised, ValidityChecks, ReadingChecks, IsChecked, ChecksTheSame, read_steps, IsSafeAdvice, checking}
use Rattle.cl_top.proofs.Meanings.{IsMeantWell, done_some, done_once, bytes_well}

-- ---- there is an outcome

advised_some : (bytes : List ℕ) (model : Option SystemModel) (refusal : Refusal) → (found : Outcome) × IsAdvised bytes model refusal found
advised_some bytes model refusal =
    let (text, advice) = some_advice bytes model refusal (refusal_line refusal) in
    (record { status = MODEL_REFUSED; text = text }, record { status_is = refl; text_is = advice })

validity_some : (bytes : List ℕ) (model : SystemModel) (refusal : Option Refusal) → (found : Outcome) × ValidityChecks bytes model refusal found
validity_some bytes model None = done_some (λ text. text ≡ accepted_text model) (accepted_text model) refl
validity_some bytes model (Some refusal) = advised_some bytes (Some model) refusal

pub reading_some : (bytes : List ℕ) (read : Result SystemModel Refusal) → (found : Outcome) × ReadingChecks bytes read found
reading_some bytes (Ok model) = validity_some bytes model (refusal_of model)
reading_some bytes (Err refusal) = advised_some bytes None refusal

-- ---- two outcomes say the same

module _ (one other : Outcome) where
  advised_same : (bytes : List ℕ) (model : Option SystemModel) (refusal : Refusal) → IsAdvised bytes model refusal one → IsAdvised bytes model refusal other
      → ChecksTheSame one other
  advised_same bytes model refusal first second = inr (record { bytes = bytes; model = model; refusal = refusal; first = first; second = second })

  validity_same : (bytes : List ℕ) (model : SystemModel) (refusal : Option Refusal) → ValidityChecks bytes model refusal one → ValidityChecks bytes model refusal other
      → ChecksTheSame one other
  validity_same bytes model None first second =
      inl (done_once (λ text. text ≡ accepted_text model) (λ text again is likewise. is ∙ sym likewise) one other first second)
  validity_same bytes model (Some refusal) first second = advised_same bytes (Some model) refusal first second

  pub reading_same : (bytes : List ℕ) (read : Result SystemModel Refusal) → ReadingChecks bytes read one → ReadingChecks bytes read other → ChecksTheSame one other
  reading_same bytes (Ok model) first second = validity_same bytes model (refusal_of model) first second
  reading_same bytes (Err refusal) first second = advised_same bytes None refusal first second

-- ---- why it ends with its status

validity_status : (bytes : List ℕ) (model : SystemModel) (refusal : Option Refusal) (found : Outcome) → ValidityChecks bytes model refusal found
    → (found.status ≡ DONE) ⊎ (found.status ≡ MODEL_REFUSED)
validity_status bytes model None found is = inl is.status_is
validity_status bytes model (Some refusal) found is = inr is.status_is

pub reading_status : (bytes : List ℕ) (read : Result SystemModel Refusal) (found : Outcome) → ReadingChecks bytes read found
    → (found.status ≡ DONE) ⊎ (found.status ≡ MODEL_REFUSED)
reading_status bytes (Ok model) found is = validity_status bytes model (refusal_of model) found is
reading_status bytes (Err refusal) found is = inr is.status_is

check_content : (bytes : List ℕ) (found : Outcome) → IsChecked bytes found → MayEnd (Bytes bytes) files.Content found
check_content bytes found is = elim (reading_status bytes (model_of bytes) found is) [ inl done ↦ inl (inl done) | inr refused ↦ inr refused ]

-- ---- what it promises

module _ (bytes : List ℕ) (found : Outcome) (done : found.status ≡ DONE) where
  validity_safe : (model : SystemModel) (refusal : Option Refusal) → model_of bytes ≡ Ok model → refusal_of model ≡ refusal
      → ValidityChecks bytes model refusal found → IsSafeAdvice bytes found.text
  validity_safe model None means none is =
      let accepted : MeansModel bytes model = record { means = means; unrefused = none } in
      let valid = valid_read bytes model accepted in
      record { model = model; means = accepted; valid = valid; accepted = safe_acceptance model valid found.text is.text_is }
  validity_safe model (Some refusal) means some is = absurd (omega (arith, done, is.status_is))

  pub reading_safe : (read : Result SystemModel Refusal) → model_of bytes ≡ read → ReadingChecks bytes read found → IsSafeAdvice bytes found.text
  reading_safe (Ok model) means is = validity_safe model (refusal_of model) means refl is
  reading_safe (Err refusal) means is = absurd (omega (arith, done, is.status_is))

pub checking_well : IsMeantWell files.Content checking (Unit {0})
checking_well = bytes_well (of_bytes (λ bytes before after. after ≤ before + read_steps (model_of bytes)) (λ before after. ⊥)) (of_bytes IsSafeAdvice (λ text. ⊥)) ChecksTheSame (Unit {0})
    (λ one other is. inl is) IsChecked (λ bytes. reading_some bytes (model_of bytes))
    (λ bytes one other h k. reading_same one other bytes (model_of bytes) h k) check_content
    (λ bytes steps. omega arith) (λ bytes found is done. reading_safe bytes found done (model_of bytes) refl is)
