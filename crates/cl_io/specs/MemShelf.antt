-- Shelves in memory.
use Rattle.std.specs.Prelude.{◌≡◌, ℕ, Bool, true, false, ◌||◌, ◌==◌, List, [], unwrap_or, is_none, Result, Ok, Err, Vec}
use Rattle.std.specs.List.{list_any}
use Rattle.std.specs.Option.{option_map_or}
use Rattle.std.specs.declared.alloc.Global.{Global}
use Rattle.cl_io.specs.{declared.{fault.FetchFault.{FetchFault, TheVariants.{Failed, Long, NoMemory}}, mem_shelf.MemShelf.MemShelf, sure_shelf.SureShelf.SureShelf, name_numbers.Numbers.Numbers}, Counts.counted, NameNumbers.{numbers_of, longest_of}, Files.file_of, Shelf.{Held, Absent}}
use Rattle.cl_io.specs.Shelf.{Content}

-- what a memory shelf holds under a name
abbrev pub mem_held : MemShelf → List ℕ → Held
mem_held shelf name = option_map_or Content (file_of shelf.files name) Absent

-- what a sure shelf holds under a name: no bytes, where nothing was put there
abbrev pub sure_held : SureShelf → List ℕ → Held
sure_held shelf name = Content (unwrap_or (file_of shelf.files name) [])

-- the numbers of a name
abbrev pub mem_numbers : MemShelf → List ℕ → Numbers
mem_numbers shelf name = numbers_of shelf.numbers name

-- the numbers of the fetches that fail, from 0 for the first
abbrev pub failing_calls : MemShelf → List ℕ
failing_calls shelf = shelf.failing.items

-- how many fetches there were; at the greatest u64 the number stays
abbrev pub calls_made : MemShelf → ℕ
calls_made shelf = shelf.calls

-- the most bytes that one fetch of a name took
abbrev pub sure_longest : SureShelf → List ℕ → ℕ
sure_longest shelf name = longest_of shelf.numbers name

-- The next fetch of the name fails: there is no file of that name, or it is one of those that are to fail.
abbrev pub fetch_fails_next : MemShelf → List ℕ → Bool
fetch_fails_next shelf name = is_none (file_of shelf.files name) || list_any (λ call. call == calls_made shelf) (failing_calls shelf)

-- A fetch that is to fail does, and no other does. Memory may run out in either.
abbrev pub FailsExactly : Bool → Result (Vec ℕ Global) FetchFault → Type 0
FailsExactly fails (Ok bytes) = fails ≡ false
FailsExactly fails (Err (Long taken)) = fails ≡ false
FailsExactly fails (Err Failed) = fails ≡ true
FailsExactly fails (Err NoMemory) = Unit {0}

-- A fetch that fails raises its name's count by one, up to the greatest u64, and no other does.
abbrev pub CountsFaults : (before after : ℕ) → Result (Vec ℕ Global) FetchFault → Type 0
CountsFaults before after (Ok bytes) = after ≡ before
CountsFaults before after (Err (Long taken)) = after ≡ before
CountsFaults before after (Err Failed) = after ≡ counted before
CountsFaults before after (Err NoMemory) = after ≡ before
