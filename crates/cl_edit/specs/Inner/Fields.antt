-- What a single word of an edit is read as.
use Rattle.std.specs.Prelude.{ℕ, Bool, true, false, nat_le, ◌&&◌, if◌then◌else◌, Option, Some, None, List, [], length, codes, decimal}
use Rattle.std.specs.Option.{option_map}
use Rattle.std.specs.List.{list_all}
use Rattle.std.specs.Str.{bytes_eq}
use Rattle.std.specs.Str.Parse.{digits_value}
use Rattle.cl_model.specs.{declared.{limits.TheConstants.MOST_TICKS, chain.RequirementKind.RequirementKind, task.AccessKind.AccessKind}, Name.is_name, Reading.{Checks.meaning_of, Tables.{access_words, requirement_kind_words}}}
use Rattle.cl_edit.specs.Inner.Parts.{parts}

-- a name
abbrev pub name_in : List ℕ → Option (List ℕ)
name_in word = if is_name word then Some word else None

-- the number from `least` to `most` that the word is the decimal of
unfoldable pub decimal_from : (least most : ℕ) → List ℕ → Option ℕ
decimal_from least most word =
    let n = digits_value 10 word in
    if bytes_eq word (decimal n) && nat_le least n && nat_le n most then Some n else None

-- a time from 1 tick up
abbrev pub time_in : List ℕ → Option ℕ
time_in word = decimal_from 1 MOST_TICKS word

-- yes or no
abbrev pub flag_in : List ℕ → Option Bool
flag_in word = if bytes_eq word (codes "yes") then Some true else if bytes_eq word (codes "no") then Some false else None

-- a kind of access
abbrev pub access_in : List ℕ → Option AccessKind
access_in word = meaning_of access_words word

-- a kind of requirement
abbrev pub requirement_kind_in : List ℕ → Option RequirementKind
requirement_kind_in word = meaning_of (requirement_kind_words 3) word

-- a deadline, or that there is none
abbrev pub deadline_in : List ℕ → Option (Option ℕ)
deadline_in word = if bytes_eq word (codes "*") then Some None else option_map Some (time_in word)

-- at most so many names, or that there is none
abbrev pub names_in : (most : ℕ) → List ℕ → Option (List (List ℕ))
names_in most word = if bytes_eq word (codes "*") then Some [] else
    let names = parts 0x2C word in
    if nat_le (length names) most && list_all is_name names then Some names else None
