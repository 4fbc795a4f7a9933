-- The two numbers that a shelf keeps for each name.
use Rattle.std.specs.Prelude.{ℕ, List, IsSome, unwrap_or}
use Rattle.std.specs.BTreeMap.{get_by_text}
use Rattle.cl_io.specs.declared.name_numbers.{Numbers.Numbers, NameNumbers.NameNumbers}

-- of a name that was never fetched
abbrev pub no_numbers : Numbers
no_numbers = record { faults = 0; longest = 0 }

-- the numbers of a name
abbrev pub numbers_of : NameNumbers → List ℕ → Numbers
numbers_of all name = unwrap_or (get_by_text all.entries name) no_numbers

abbrev pub faults_of : NameNumbers → List ℕ → ℕ
faults_of all name = (numbers_of all name).faults

abbrev pub longest_of : NameNumbers → List ℕ → ℕ
longest_of all name = (numbers_of all name).longest

-- There is room for the name's numbers, so that a change of them takes no memory.
abbrev pub IsEntered : NameNumbers → List ℕ → Type 0
IsEntered all name = IsSome (get_by_text all.entries name)
