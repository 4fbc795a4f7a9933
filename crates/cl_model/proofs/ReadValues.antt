-- What the values of a document mean where their checks refuse nothing: numbers in range, names, short arrays of good
-- members.
use Rattle.std.proofs.Common.{◌≡◌, ℕ, ◌+◌, ◌≤◌, pos, negsuc, false, leb, List, [], ◌∷◌, length, map, All, Option, Some, None, arith}
use Rattle.std.specs.Prelude.{IfSome}
use Rattle.std.specs.List.{AllByRecursion}
use Rattle.std.proofs.lemmas.Bool.{leb-true}
use Rattle.std.proofs.lemmas.List.{length-map}
use Rattle.std.proofs.lemmas.List.Elements.{All-from_recursion}
use Rattle.toml.specs.Data.{Data, string, integer, float, boolean, datetime, array, table, Members}
use Rattle.cl_model.specs.{declared.{place.Place.Place, refusal.{Code.TheVariants.{M4, M5}, Refusal.Refusal}}, Name.IsName, Refusals.{unless, each_from}, Reading.Checks.{Check, a_name, a_number, a_table, an_array, found_or, members_of, fields_checks, field_checks, Field, keys_of}}
use Rattle.cl_model.specs.Reading.{Checks.has_only, Meanings.{text_in, number_in, list_of, table_of}}
use Rattle.cl_model.proofs.{ListFacts.both_pass, NoRefusals.{AllNone, all_none}, Refused.{none_before, none_behind, unless_none}}

-- ---- numbers

abbrev pub IsBetween : ℕ → ℕ → ℕ → Type 0
IsBetween low high n = (low ≤ n) × (n ≤ high)

number_between : (low high : ℕ) (place : Place) (d : Data) → a_number low high place d ≡ [] → IsBetween low high (number_in d)
number_between low high place (integer (pos n)) h =
    let t = both_pass (leb low n) (leb n high) (unless_none _ _ place h) in
    (leb-true low n t.0, leb-true n high t.1)
number_between low high place (integer (negsuc n)) h = absurd cc
number_between low high place (string s) h = absurd cc
number_between low high place (float x) h = absurd cc
number_between low high place (boolean b) h = absurd cc
number_between low high place (datetime x) h = absurd cc
number_between low high place (array ds) h = absurd cc
number_between low high place (table ms) h = absurd cc

pub number_at_between : (low high : ℕ) (place : Place) (o : Option Data) → found_or (unless false M5 place) (a_number low high place) o ≡ [] → IsBetween low high (found_or 0 number_in o)
number_at_between low high place None h = absurd cc
number_at_between low high place (Some d) h = number_between low high place d h

pub number_or_zero_between : (high : ℕ) (place : Place) (o : Option Data) → found_or [] (a_number 0 high place) o ≡ [] → found_or 0 number_in o ≤ high
number_or_zero_between high place None h = omega arith
number_or_zero_between high place (Some d) h = (number_between 0 high place d h).1

pub number_if_between : (low high : ℕ) (place : Place) (o : Option Data) → found_or [] (a_number low high place) o ≡ [] → IfSome (found_or None (λ d. Some (number_in d)) o) (IsBetween low high)
number_if_between low high place None h = tt
number_if_between low high place (Some d) h = number_between low high place d h

-- ---- names

name_read : (place : Place) (d : Data) → a_name place d ≡ [] → IsName (text_in d)
name_read place (string word) h = unless_none _ _ place h
name_read place (integer z) h = absurd cc
name_read place (float x) h = absurd cc
name_read place (boolean b) h = absurd cc
name_read place (datetime x) h = absurd cc
name_read place (array ds) h = absurd cc
name_read place (table ms) h = absurd cc

-- the name at a key that must be there
pub name_at : (place : Place) (o : Option Data) → found_or (unless false M5 place) (a_name place) o ≡ [] → IsName (found_or [] text_in o)
name_at place None h = absurd cc
name_at place (Some d) h = name_read place d h

-- ---- arrays

array_short : {X : Type 0} (limit : ℕ) (place_in : ℕ → Place → Place) (check : Check) (meaning : Data → X) (place : Place) (d : Data)
    → an_array limit place_in check place d ≡ [] → length (map meaning (list_of d)) ≤ limit
array_short limit place_in check meaning place (array ds) h =
    let t = leb-true _ limit (unless_none _ _ place (none_before _ _ h)) in omega (arith, t, length-map (members_of ds) meaning)
array_short limit place_in check meaning place (integer z) h = absurd cc
array_short limit place_in check meaning place (string s) h = absurd cc
array_short limit place_in check meaning place (float x) h = absurd cc
array_short limit place_in check meaning place (boolean b) h = absurd cc
array_short limit place_in check meaning place (datetime x) h = absurd cc
array_short limit place_in check meaning place (table ms) h = absurd cc

-- the array at a key is short
pub short : {X : Type 0} (limit : ℕ) (place_in : ℕ → Place → Place) (check : Check) (meaning : Data → X) (place : Place) (o : Option Data)
    → found_or [] (an_array limit place_in check place) o ≡ [] → length (found_or [] (λ d. map meaning (list_of d)) o) ≤ limit
short limit place_in check meaning place None h = omega arith
short limit place_in check meaning place (Some d) h = array_short limit place_in check meaning place d h

module _ {X : Type 0} (P : X → Type 0) (check : Check) (meaning : Data → X) (good : (place : Place) (d : Data) → check place d ≡ [] → P (meaning d)) where
  each_good : (place_in : ℕ → Place → Place) (place : Place) (n : ℕ) (ds : List Data)
      → each_from n (λ k. check (place_in k place)) ds ≡ [] → AllByRecursion P (map meaning ds)
  each_good place_in place n [] h = tt
  each_good place_in place n (d ∷ ds) h =
      (good (place_in n place) d (none_before _ _ h), each_good place_in place (n + 1) ds (none_behind (check (place_in n place) d) _ h))

  array_good : (limit : ℕ) (place_in : ℕ → Place → Place) (place : Place) (d : Data)
      → an_array limit place_in check place d ≡ [] → AllByRecursion P (map meaning (list_of d))
  array_good limit place_in place (array ds) h =
      each_good place_in place 0 (members_of ds) (none_before _ _ (none_behind (unless (leb (length (members_of ds)) limit) _ place) _ h))
  array_good limit place_in place (integer z) h = absurd cc
  array_good limit place_in place (string s) h = absurd cc
  array_good limit place_in place (float x) h = absurd cc
  array_good limit place_in place (boolean b) h = absurd cc
  array_good limit place_in place (datetime x) h = absurd cc
  array_good limit place_in place (table ms) h = absurd cc

  -- each member of the array at a key is good
  pub all_good : (limit : ℕ) (place_in : ℕ → Place → Place) (place : Place) (o : Option Data)
      → found_or [] (an_array limit place_in check place) o ≡ [] → All P (found_or [] (λ d. map meaning (list_of d)) o)
  all_good limit place_in place None h = All-from_recursion P [] tt
  all_good limit place_in place (Some d) h = All-from_recursion P (map meaning (list_of d)) (array_good limit place_in place d h)

-- the names in the array at a key
pub names_at : (limit : ℕ) (place_in : ℕ → Place → Place) (place : Place) (o : Option Data)
    → found_or [] (an_array limit place_in a_name place) o ≡ [] → All IsName (found_or [] (λ d. map text_in (list_of d)) o)
names_at = all_good IsName a_name text_in name_read

-- ---- tables

pub table_good : (asked : Place → Members → List Refusal) (place : Place) (d : Data) → a_table asked place d ≡ [] → asked place (table_of d) ≡ []
table_good asked place (table ms) h = h
table_good asked place (array ds) h = absurd cc
table_good asked place (integer z) h = absurd cc
table_good asked place (string s) h = absurd cc
table_good asked place (float x) h = absurd cc
table_good asked place (boolean b) h = absurd cc
table_good asked place (datetime x) h = absurd cc

-- each field of a table is refused nothing
pub fields_none : (fields : List Field) (place : Place) (ms : Members) → fields_checks fields place ms ≡ [] → AllNone (map (field_checks place ms) fields)
fields_none fields place ms h = all_none (map (field_checks place ms) fields) (none_behind (unless (has_only (keys_of fields) ms) M4 place) _ h)
