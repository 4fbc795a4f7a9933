-- `check MODEL`: what to mend in a model file that is refused, or what to know of one that is accepted.
use Rattle.std.specs.Prelude.{◌≡◌, ◌⊎◌, ℕ, ◌+◌, ◌≤◌, List, length, Option, Some, None, Result, Ok, Err}
use Rattle.cl_model.specs.{declared.{model.SystemModel.SystemModel, refusal.Refusal.Refusal}, Reading.model_of, Validity.{refusal_of, IsValid}}
use Rattle.cl_advice.specs.Advice.{AddsAdvice}
use Rattle.cl_explain.specs.{Accepted.accepted_text, Promises.IsSafeAcceptance}
use Rattle.cl_engine.specs.{declared.{outcome.Outcome.Outcome, status.TheConstants.MODEL_REFUSED}, Content.{MeansModel, of_bytes}, Done.{HasStatusAndText, IsDone}, Outcome.refusal_line}
use Rattle.cl_top.specs.Meaning.{Meaning, on_bytes}

-- the line of a refusal, and behind it what to mend in the file; of the model that it means, where it has one
abbrev pub IsAdvised : (bytes : List ℕ) → Option SystemModel → Refusal → Outcome → Type 0
IsAdvised bytes model refusal found = HasStatusAndText MODEL_REFUSED (AddsAdvice bytes model refusal (refusal_line refusal)) found

-- of a model: what to mend where it is refused, and else what to know of it
abbrev pub ValidityChecks : (bytes : List ℕ) → SystemModel → Option Refusal → Outcome → Type 0
ValidityChecks bytes model None found = IsDone (λ text. text ≡ accepted_text model) found
ValidityChecks bytes model (Some refusal) found = IsAdvised bytes (Some model) refusal found

abbrev pub ReadingChecks : (bytes : List ℕ) → Result SystemModel Refusal → Outcome → Type 0
ReadingChecks bytes (Ok model) found = ValidityChecks bytes model (refusal_of model) found
ReadingChecks bytes (Err refusal) found = IsAdvised bytes None refusal found

-- the outcome of the bytes of a file
abbrev pub IsChecked : (bytes : List ℕ) → Outcome → Type 0
IsChecked bytes found = ReadingChecks bytes (model_of bytes) found

-- both say what to mend, of the same refusal of the same bytes
pub record AreAdvisedAlike (one other : Outcome) : Type 0 where
  pub bytes : List ℕ
  pub model : Option SystemModel
  pub refusal : Refusal
  pub first : IsAdvised bytes model refusal one
  pub second : IsAdvised bytes model refusal other

-- two outcomes are equal, or both say what to mend
abbrev pub ChecksTheSame : (one other : Outcome) → Type 0
ChecksTheSame one other = (one ≡ other) ⊎ AreAdvisedAlike one other

-- at most one step for each task of the model that is read, and none where none is
abbrev pub read_steps : Result SystemModel Refusal → ℕ
read_steps (Ok model) = length model.tasks
read_steps (Err refusal) = 0

-- ---- what is promised

-- The bytes mean a valid model, of which the text says what to know: a task that it calls late has no response within its
-- deadline by phases, and each other always finishes within its deadline.
pub record IsSafeAdvice (bytes text : List ℕ) : Type 0 where
  pub model : SystemModel
  pub means : MeansModel bytes model
  pub valid : IsValid model
  pub accepted : IsSafeAcceptance model text

-- what `check` means
abbrev pub checking : Meaning
checking = record {
  comes_to = on_bytes IsChecked;
  takes = of_bytes (λ bytes before after. after ≤ before + read_steps (model_of bytes)) (λ before after. ⊥);
  safe = of_bytes IsSafeAdvice (λ text. ⊥);
  same = ChecksTheSame;
}
