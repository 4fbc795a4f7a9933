-- What is handed out of content in memory.
use Rattle.std.specs.Prelude.{◌≡◌, ℕ, ◌<◌, ◌≤◌, max, List, length, Result, Ok, Err, Vec}
use Rattle.std.specs.declared.alloc.Global.{Global}
use Rattle.cl_io.specs.declared.fault.FetchFault.{FetchFault, TheVariants.{Failed, Long, NoMemory}}

-- the content itself, or how long it is where that is past the limit; `before` and `after` are the most bytes that one
-- fetch took
abbrev pub IsGiven : (content : List ℕ) (limit before after : ℕ) → Result (Vec ℕ Global) FetchFault → Type 0
IsGiven content limit before after (Ok bytes) = (bytes.items ≡ content) × (length content ≤ limit) × (after ≡ max before (length content))
IsGiven content limit before after (Err (Long taken)) = (taken ≡ length content) × (limit < taken) × (after ≡ max before taken)
IsGiven content limit before after (Err Failed) = ⊥
IsGiven content limit before after (Err NoMemory) = after ≡ before
