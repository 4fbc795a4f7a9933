-- What the edges make of what the system answers.
use Rattle.std.specs.Prelude.{◌≡◌, ◌≢◌, ℕ, ◌<◌, ◌≤◌, min, List, length, Result, Ok, Err, Vec}
use Rattle.std.specs.declared.alloc.Global.{Global}
use Rattle.std.specs.IoError.{error_kind}
use Rattle.std.specs.declared.io.Error.{Error}
use Rattle.std.specs.declared.io.ErrorKind.TheVariants.{OutOfMemory}
use Rattle.cl_io.specs.{Counts.counted, declared.fault.{FetchFault.FetchFault, SinkFault.SinkFault}}
use Rattle.cl_io.specs.declared.fault.FetchFault.TheVariants as fetch_fault
use Rattle.cl_io.specs.declared.fault.SinkFault.TheVariants as sink_fault
use Rattle.cl_engine.specs.declared.status.TheConstants.{NO_MEMORY, ARGUMENT_NOT_TEXT}

-- ---- a file

-- Which fault an error of the system is: want of memory for want of memory, and a fault of reading for every other.
abbrev pub IsFaultOfError : Error → FetchFault → Type 0
IsFaultOfError error fetch_fault.NoMemory = error_kind error ≡ OutOfMemory
IsFaultOfError error fetch_fault.Failed = error_kind error ≢ OutOfMemory
IsFaultOfError error (fetch_fault.Long taken) = ⊥

-- What a fetch answers, by what the reading of the file answered: its bytes, if they are within the limit.
abbrev pub Settles : Result (Vec ℕ Global) Error → (limit : ℕ) → Result (Vec ℕ Global) FetchFault → Type 0
Settles (Ok bytes) limit (Ok whole) = (whole ≡ bytes) × (length bytes.items ≤ limit)
Settles (Ok bytes) limit (Err (fetch_fault.Long taken)) = (taken ≡ length bytes.items) × (limit < taken)
Settles (Ok bytes) limit (Err fetch_fault.Failed) = ⊥
Settles (Ok bytes) limit (Err fetch_fault.NoMemory) = ⊥
Settles (Err error) limit (Ok whole) = ⊥
Settles (Err error) limit (Err fault) = IsFaultOfError error fault

-- What a fetch answers of a file of which these bytes are left to read: all of them, or how many were taken where there
-- are more than the limit, one past it at the most; or an error of reading stopped it.
abbrev pub ReadsWithin : (left : List ℕ) (limit : ℕ) → Result (Vec ℕ Global) FetchFault → Type 0
ReadsWithin left limit (Ok bytes) = (bytes.items ≡ left) × (length left ≤ limit)
ReadsWithin left limit (Err (fetch_fault.Long taken)) = (taken ≡ min (counted limit) (length left)) × (limit < length left)
ReadsWithin left limit (Err fetch_fault.Failed) = Unit {0}
ReadsWithin left limit (Err fetch_fault.NoMemory) = Unit {0}

-- ---- the output

-- What a write of a piece of so many bytes answers, by what the output answered: an error is a failure, and so is
-- nothing of a piece that isn't empty.
abbrev pub TakesAsAnswered : Result ℕ Error → (len : ℕ) → Result ℕ SinkFault → Type 0
TakesAsAnswered (Ok taken) len (Ok own) = (own ≡ taken) × (0 < len → 0 < taken)
TakesAsAnswered (Ok taken) len (Err sink_fault.Failed) = (0 < len) × (taken ≡ 0)
TakesAsAnswered (Err error) len (Ok own) = ⊥
TakesAsAnswered (Err error) len (Err sink_fault.Failed) = Unit {0}

-- ---- the arguments

-- The status of a program whose arguments the system doesn't give: want of memory, or an argument isn't text.
pub record IsStatusOfError (error : Error) (status : ℕ) : Type 0 where
  pub memory : error_kind error ≡ OutOfMemory → status ≡ NO_MEMORY
  pub text : error_kind error ≢ OutOfMemory → status ≡ ARGUMENT_NOT_TEXT
