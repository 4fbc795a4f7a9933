-- What lies under a name, and what a fetch of it may answer.
use Rattle.std.specs.Prelude.{◌≡◌, ◌⊎◌, ℕ, ◌<◌, ◌≤◌, max, List, length, Result, Ok, Err, Vec}
use Rattle.std.specs.declared.alloc.Global.{Global}
use Rattle.cl_io.specs.{declared.{fault.FetchFault.{FetchFault, TheVariants.{Failed, Long, NoMemory}}, name_numbers.Numbers.Numbers}, Counts.Rose}

-- what a shelf holds under a name
pub data Held : Type 0 where
  -- the shelf doesn't tell
  Untold : Held
  -- there is no file of that name
  Absent : Held
  -- a file of these bytes
  Content : (bytes : List ℕ) → Held

-- These may be the bytes under the name: the very ones, where they are told.
abbrev pub MayBe : Held → List ℕ → Type 0
MayBe Untold bytes = Unit {0}
MayBe Absent bytes = ⊥
MayBe (Content content) bytes = bytes ≡ content

-- So many bytes may lie under the name, or more.
abbrev pub MayHave : Held → ℕ → Type 0
MayHave Untold taken = Unit {0}
MayHave Absent taken = ⊥
MayHave (Content content) taken = taken ≤ length content

-- What a fetch may answer, by what is held under its name and by the two numbers of the name, `before` the call and
-- `after` it. The count of faults stays where bytes are given, and has risen where the fetch failed, or took more bytes
-- than lie there.
abbrev pub MayAnswer : Held → (limit : ℕ) (before after : Numbers) → Result (Vec ℕ Global) FetchFault → Type 0
MayAnswer held limit before after (Ok bytes) =
    MayBe held bytes.items × (length bytes.items ≤ limit) × (after.faults ≡ before.faults) × (after.longest ≡ max before.longest (length bytes.items))
MayAnswer held limit before after (Err (Long taken)) =
    (Rose before.faults after.faults ⊎ MayHave held taken) × (limit < taken) × (after.longest ≡ max before.longest taken)
MayAnswer held limit before after (Err Failed) = Rose before.faults after.faults × (after.longest ≡ before.longest)
MayAnswer held limit before after (Err NoMemory) = after.longest ≡ before.longest
