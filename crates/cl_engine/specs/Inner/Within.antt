-- Answers of a fetch by the limit alone.
use Rattle.std.specs.Prelude.{ℕ, ◌<◌, ◌≤◌, length, Result, Ok, Err, Vec}
use Rattle.std.specs.declared.alloc.Global.{Global}
use Rattle.cl_io.specs.declared.fault.FetchFault.{FetchFault, TheVariants.{Failed, Long, NoMemory}}

-- bytes are within the limit, and a length is past it
abbrev pub IsWithin : (limit : ℕ) → Result (Vec ℕ Global) FetchFault → Type 0
IsWithin limit (Ok bytes) = length bytes.items ≤ limit
IsWithin limit (Err (Long taken)) = limit < taken
IsWithin limit (Err Failed) = Unit {0}
IsWithin limit (Err NoMemory) = Unit {0}
