-- Values that are written pass their checks, and mean what was written.
use Rattle.std.proofs.Common.{◌≡◌, ℕ, ◌+◌, ◌≤◌, Bool, true, false, cond, not, leb, le-leb, List, [], ◌∷◌, length, map, All, Option, Some, None, refl, ap, ◌∙◌, arith}
use Rattle.std.specs.Prelude.{IfSome, ◌==◌}
use Rattle.std.specs.List.{AllByRecursion}
use Rattle.std.proofs.lemmas.Bool.Decides.{nat_tests}
use Rattle.std.proofs.lemmas.List.{append-nil, length-map}
use Rattle.std.proofs.lemmas.List.Elements.{recursion_from_All}
use Rattle.toml.specs.{Data.{Data, string}, View.items_of}
use Rattle.cl_model.specs.{declared.{place.{Key.Key, Place.Place}, refusal.{Code.TheVariants.{M4, M5}, Refusal.Refusal}}, Name.IsName, Place.at_key, Refusals.{unless, in_order, each_from}, Reading.Checks.{Check, a_name, a_number, a_boolean, an_array, found_or, members_of, fields_checks}}
use Rattle.cl_model.specs.Reading.{Checks.{field_checks, Field, keys_of, has_only}, Meanings.{number_in, boolean_of, list_of}}
use Rattle.cl_model.proofs.NoRefusals.{AllNone, none_in_order}
use Rattle.cl_write.specs.Entries.{Entry, number, number_data_if, unless_zero, when_true, unless_empty, members_with}
use Rattle.cl_write.proofs.Found.{entry_at, are_apart, has_keys_among, found, only}

-- ---- single values

pub name_passes : (place : Place) (word : List ℕ) → IsName word → a_name place (string word) ≡ []
name_passes place word named = rw named refl

pub number_passes : (low high : ℕ) (place : Place) (n : ℕ) → low ≤ n → n ≤ high → a_number low high place (number n) ≡ []
number_passes low high place n least most = rw (le-leb low n least, le-leb n high most) refl

-- a number that is left out where none is given
pub number_if_passes : (low high : ℕ) (place : Place) (n : Option ℕ) → IfSome n (λ n. (low ≤ n) × (n ≤ high)) → found_or [] (a_number low high place) (number_data_if n) ≡ []
number_if_passes low high place None within = refl
number_if_passes low high place (Some n) within = number_passes low high place n within.0 within.1

pub number_if_means : (n : Option ℕ) → found_or None (λ d. Some (number_in d)) (number_data_if n) ≡ n
number_if_means None = refl
number_if_means (Some n) = refl

-- a number that is left out where it is 0
pub unless_zero_passes : (high : ℕ) (place : Place) (n : ℕ) → n ≤ high → found_or [] (a_number 0 high place) (unless_zero n) ≡ []
unless_zero_passes high place n most = by_test (n == 0)
  where
    by_test : (is_zero : Bool) → found_or [] (a_number 0 high place) (cond is_zero None (Some (number n))) ≡ []
    by_test true = refl
    by_test false = number_passes 0 high place n (omega arith) most

pub unless_zero_means : (n : ℕ) → found_or 0 number_in (unless_zero n) ≡ n
unless_zero_means n = grind (arith, nat_tests)

-- `true`, where it is
pub when_true_passes : (place : Place) (b : Bool) → found_or [] (a_boolean place) (when_true b) ≡ []
when_true_passes place true = refl
when_true_passes place false = refl

pub when_true_means : (b : Bool) → found_or false boolean_of (when_true b) ≡ b
when_true_means true = refl
when_true_means false = refl

-- ---- arrays

members_of-items : (ds : List Data) → members_of (items_of ds) ≡ ds
members_of-items [] = refl
members_of-items (d ∷ ds) = ap (λ rest. d ∷ rest) (members_of-items ds)

module _ {X : Type 0} (written : X → Data) where
  each_passes : (check : ℕ → Place → Data → List Refusal) (place : Place) (n : ℕ) (xs : List X)
      → AllByRecursion (λ x. (k : ℕ) (place : Place) → check k place (written x) ≡ []) xs → each_from n (λ k. check k place) (map written xs) ≡ []
  each_passes check place n [] all = refl
  each_passes check place n (x ∷ xs) all = rw (all.0 n place) (each_passes check place (n + 1) xs all.1)

  -- an array that is left out where it is empty
  pub unless_empty_passes : (limit : ℕ) (place_in : ℕ → Place → Place) (check : Check) (place : Place) (xs : List X) → length xs ≤ limit
      → All (λ x. (place : Place) → check place (written x) ≡ []) xs → found_or [] (an_array limit place_in check place) (unless_empty written xs) ≡ []
  unless_empty_passes limit place_in check place [] short all = refl
  unless_empty_passes limit place_in check place (x ∷ xs) short all =
      let few : leb (length (map written (x ∷ xs))) limit ≡ true = le-leb _ _ (omega (arith, short, length-map (x ∷ xs) written)) in
      rw (members_of-items (map written xs), few) (append-nil _ ∙ each_passes (λ k p. check (place_in k p)) place 0 (x ∷ xs) (recursion_from_All _ (x ∷ xs) (λ k d lt n p. all k d lt (place_in n p))))

  pub unless_empty_means : (meaning : Data → X) (xs : List X) → All (λ x. meaning (written x) ≡ x) xs → found_or [] (λ d. map meaning (list_of d)) (unless_empty written xs) ≡ xs
  unless_empty_means meaning [] means = refl
  unless_empty_means meaning (x ∷ xs) means = rw (members_of-items (map written xs)) (all_mean (x ∷ xs) (recursion_from_All _ (x ∷ xs) means))
    where
      all_mean : (ys : List X) → AllByRecursion (λ x. meaning (written x) ≡ x) ys → map meaning (map written ys) ≡ ys
      all_mean [] each = refl
      all_mean (y ∷ ys) each = rw (each.0, all_mean ys each.1) refl

-- ---- tables

-- what the entries hold at a key passes the checks of the field
abbrev pub FieldPasses : Place → List Entry → Field → Type 0
FieldPasses place entries field =
    let there = at_key field.key place in
    found_or (unless (not field.must) M5 there) (field.check there) (entry_at field.key entries) ≡ []

module _ (place : Place) (entries : List Entry) (apart : are_apart entries ≡ true) where
  pub fields_pass : (fields : List Field) → AllByRecursion (FieldPasses place entries) fields → AllNone (map (field_checks place (members_with entries)) fields)
  fields_pass [] all = tt
  fields_pass (field ∷ fields) all = (ap (λ v. found_or (unless (not field.must) M5 (at_key field.key place)) (field.check (at_key field.key place)) v) (found field.key entries apart) ∙ all.0, fields_pass fields all.1)

  -- a table of entries whose keys are these
  pub checks_pass : (keys : List Key) (fields : List Field) → has_keys_among keys entries ≡ true → AllByRecursion (FieldPasses place entries) fields
      → in_order (unless (has_only keys (members_with entries)) M4 place ∷ map (field_checks place (members_with entries)) fields) ≡ []
  checks_pass keys fields among all = rw (only keys entries among) (none_in_order (map (field_checks place (members_with entries)) fields) (fields_pass fields all))

  -- and where they are those of the fields
  pub table_passes : (fields : List Field) → has_keys_among (keys_of fields) entries ≡ true → AllByRecursion (FieldPasses place entries) fields → fields_checks fields place (members_with entries) ≡ []
  table_passes fields among all = checks_pass (keys_of fields) fields among all
