-- Outcomes by their status and by what holds of their text.
use Rattle.std.specs.Prelude.{◌≡◌, ℕ, List}
use Rattle.cl_engine.specs.declared.{outcome.Outcome.Outcome, status.TheConstants.DONE}

-- this status, and a text of which this holds
pub record HasStatusAndText (status : ℕ) (IsText : List ℕ → Type 0) (found : Outcome) : Type 0 where
  pub status_is : found.status ≡ status
  pub text_is : IsText found.text

-- the command did what it says, and this holds of its text
abbrev pub IsDone : (IsText : List ℕ → Type 0) → Outcome → Type 0
IsDone IsText found = HasStatusAndText DONE IsText found
