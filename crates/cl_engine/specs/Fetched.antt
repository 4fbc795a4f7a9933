-- What the fetches of a command's files gave.
use Rattle.std.specs.Prelude.{◌≡◌, ◌≢◌, ◌⊎◌, ℕ, ◌+◌, ◌<◌, ◌≤◌, List, length, if◌then◌else◌, nat_lt}
use Rattle.std.specs.List.{AllByRecursion, Contains}
use Rattle.cl_io.specs.Shelf.{Held, Content, MayBe, MayHave}
use Rattle.cl_model.specs.declared.model.SystemModel.{SystemModel}
use Rattle.cl_engine.specs.{Calls.{ShelfCall, RoseAt, StaysAt}, Content.MeansModel, Files.{File, model_file, word}}

-- what the fetch of a file gave
pub data Fetched : Type 0 where
  -- there was no fetch
  Unasked : Fetched
  -- all the bytes of the file
  Bytes : (bytes : List ℕ) → Fetched
  -- a fault of reading
  Fault : Fetched
  -- more bytes than the file's limit
  TooLong : Fetched

-- What a fetch of the name in this call may have given: bytes within the limit that may lie there and were taken, a fault
-- where the name's count of faults rose, and too many bytes where more than the limit were taken, which lie there or the
-- count rose.
abbrev pub MayGive : ShelfCall → (name : List ℕ) (limit : ℕ) → Fetched → Type 0
MayGive shelf name limit Unasked = Unit {0}
MayGive shelf name limit (Bytes bytes) = MayBe (shelf.held name) bytes × (length bytes ≤ limit) × (length bytes ≤ shelf.longest_after name)
MayGive shelf name limit Fault = RoseAt shelf name
MayGive shelf name limit TooLong = (RoseAt shelf name ⊎ MayHave (shelf.held name) (limit + 1)) × (limit < shelf.longest_after name)

-- P holds of each of the files, of some file.
abbrev pub EachFile : List File → (File → Type 0) → Type 0
EachFile files P = AllByRecursion P files

abbrev pub SomeFile : List File → (File → Type 0) → Type 0
SomeFile files P = (file : File) × Contains files file × P file

-- What the file's fetch gave is what the shelf may have given under its name.
abbrev pub FileGave : (words : List (List ℕ)) → ShelfCall → (File → Fetched) → File → Type 0
FileGave words shelf gave file = MayGive shelf (word words file.place) file.limit (gave file)

-- The count of faults of the file's name rose.
abbrev pub FileRose : (words : List (List ℕ)) → ShelfCall → File → Type 0
FileRose words shelf file = RoseAt shelf (word words file.place)

-- It rose for no file.
abbrev pub NoneRose : List File → (words : List (List ℕ)) → ShelfCall → Type 0
NoneRose files words shelf = EachFile files (λ file. ¬ FileRose words shelf file)

-- A fetch of the file's name took more bytes than the file's limit; and so many lie under it, where that is told and
-- its count of faults didn't rise.
abbrev pub FileTooLong : (words : List (List ℕ)) → ShelfCall → File → Type 0
FileTooLong words shelf file =
    let name = word words file.place in
    (file.limit < shelf.longest_after name) × (RoseAt shelf name ⊎ MayHave (shelf.held name) (file.limit + 1))

-- Numbers of names are as they were at each name that isn't one of a file.
abbrev pub StaysBeside : List File → (words : List (List ℕ)) (before after : List ℕ → ℕ) → Type 0
StaysBeside files words before after =
    (name : List ℕ) → EachFile files (λ file. name ≢ word words file.place) → after name ≡ before name

-- ---- files that are told

-- The shelf tells the bytes of each file.
abbrev pub TellsFiles : List File → (words : List (List ℕ)) (held : List ℕ → Held) (contents : ℕ → List ℕ) → Type 0
TellsFiles files words held contents = EachFile files (λ file. held (word words file.place) ≡ Content (contents file.place))

-- what the fetch of a file gives whose bytes the shelf tells, where nothing goes wrong: all of them, or too many
abbrev pub told_fetch : (contents : ℕ → List ℕ) → File → Fetched
told_fetch contents file = if nat_lt file.limit (length (contents file.place)) then TooLong else Bytes (contents file.place)

-- ---- the order of the fetches

-- There was a fetch.
abbrev pub WasFetched : Fetched → Type 0
WasFetched Unasked = ⊥
WasFetched Fault = Unit {0}
WasFetched TooLong = Unit {0}
WasFetched (Bytes bytes) = Unit {0}

-- What the fetch of a model file gave is accepted: bytes that mean a model with no refusal.
abbrev pub IsAccepted : Fetched → Type 0
IsAccepted (Bytes bytes) = (model : SystemModel) × MeansModel bytes model
IsAccepted fetched = ⊥

-- No file after this place was fetched: both numbers of its name are as they were, unless it is the first file's name.
abbrev pub NoneAfter : List File → (words : List (List ℕ)) → ShelfCall → (place : ℕ) → Type 0
NoneAfter files words shelf place =
    EachFile files (λ file. place < file.place → word words file.place ≢ word words 1 → StaysAt shelf (word words file.place))

-- The second file is fetched only where the first is accepted.
abbrev pub WaitsForModel : List File → (words : List (List ℕ)) → ShelfCall → (gave : File → Fetched) → Type 0
WaitsForModel files words shelf gave = ¬ IsAccepted (gave model_file) → NoneAfter files words shelf 1
