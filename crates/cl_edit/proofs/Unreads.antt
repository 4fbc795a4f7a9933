-- A fault that is handed on.
use Rattle.std.proofs.Common.{◌≡◌, ℕ, Option, sym, subst, ◌∙◌}
use Rattle.std.specs.Prelude.{Result, Ok, Err}
use Rattle.std.specs.Result.{IsErr, IsErrAnd}
use Rattle.cl_edit.specs.{declared.fault.Unread.Unread, Inner.Parts.ReadsPart}
use Rattle.cl_text.specs.declared.fault.LinesFault.{LinesFault, TheVariants.BadLine}

pub kept_unread : {X : Type 0} (result : Result X Unread) (fault : Unread) (meaning : Option X) → IsErr result × IsErrAnd result (λ e. e ≡ fault)
    → ReadsPart {X = X} (Err fault) meaning → ReadsPart result meaning
kept_unread (Ok x) fault meaning is unread = absurd (cc)
kept_unread {X} (Err other) fault meaning is unread = subst (λ e. ReadsPart {X = X} (Err e) meaning) (sym is.1) unread

-- the line that a fault names, which is handed on
pub kept_fault : {X : Type 0} (result : Result X LinesFault) (fault : LinesFault) (line : ℕ) → IsErr result × IsErrAnd result (λ e. e ≡ fault)
    → result ≡ Err (BadLine line) → fault ≡ BadLine line
kept_fault (Ok x) fault line kept is = absurd (cc)
kept_fault (Err other) fault line kept is = let same : other ≡ BadLine line = cc in sym kept.1 ∙ same
