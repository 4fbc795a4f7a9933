-- What the reading of a list of lines answers, where it isn't the list.
use Rattle.std.specs.Prelude.{◌≡◌, ℕ, Result, Err, MatchResult}
use Rattle.cl_text.specs.declared.fault.LinesFault.{LinesFault, TheVariants.{BadLine, NoMemory}}

-- where an answer names a line, this holds of its number
abbrev pub IfBadLine : {List : Type 0} → (answer : Result List LinesFault) → (IsBad : ℕ → Type 0) → Type 0
IfBadLine answer IsBad = (line : ℕ) → answer ≡ Err (BadLine line) → IsBad line

-- an answer is this list, unless memory ran out
abbrev pub ReadsThis : {List : Type 0} → (answer : Result List LinesFault) → (list : List) → Type 0
ReadsThis answer list = MatchResult answer (λ read. read ≡ list) (λ fault. fault ≡ NoMemory)
