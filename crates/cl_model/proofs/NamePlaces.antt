-- Names that are in a list, at which place they are found, and lists without repeats.
use Rattle.std.proofs.Common.{◌≡◌, ℕ, suc, ◌+◌, ◌-◌, ◌<◌, Bool, true, false, cond, not, ◌||◌, inl, inr, List, [], ◌∷◌, ◌++◌, length, get_or, take, map, refl, sym, ap, ◌∙◌, arith}
use Rattle.std.specs.Prelude.{unwrap_or, nat_lt, Option, Some, None, is_some, Contains}
use Rattle.std.specs.Cmp.Lexicographic.{bytes_decides}
use Rattle.std.specs.List.{list_any, position_or_len, prefix_len, IsDistinct}
use Rattle.std.proofs.lemmas.Bool.{cases_lt, cond-true, false_from_ne_true, false≢true, lt-ltb}
use Rattle.std.proofs.lemmas.Cmp.{nat_list_eq_equiv}
use Rattle.std.proofs.lemmas.Grind.{common_steps}
use Rattle.std.proofs.lemmas.List.{take-append-le, get_or-map, get_or-take, get_or_append_left, get_or-append_right, length-append, length-take-le}
use Rattle.std.proofs.lemmas.List.Folds.{list_any_at}
use Rattle.std.proofs.lemmas.List.Quantifiers.{position-Some}
use Rattle.std.proofs.lemmas.List.Sums.{position_or_len_is}
use Rattle.std.proofs.lemmas.Map.Made.{AllPairs-from_IsDistinct}
use Rattle.std.proofs.lemmas.Map.Views.{Contains-from_any, list_any-from_Contains}
use Rattle.std.proofs.Math.ListN.{length-map}
use Rattle.std.proofs.Math.Seq.{take-append-add}
use Rattle.cl_model.specs.{KnownNames.AreFound, Named.{same_name, has_name, index_of}, NameSets.{AreDistinctNames, AreNew}}

-- ---- names that are in a list

-- a name that is in a list is one of its elements
pub known_stands : (name : List ℕ) (names : List (List ℕ)) → has_name name names ≡ true → Contains names name
known_stands = Contains-from_any (λ x y. (bytes_decides x y).0)

pub stands_known : (name : List ℕ) (names : List (List ℕ)) → Contains names name → has_name name names ≡ true
stands_known = list_any-from_Contains nat_list_eq_equiv

-- what passes a test is found
pub found_within : {X : Type 0} (p : X → Bool) (xs : List X) → list_any p xs ≡ true → position_or_len p xs < length xs
found_within p [] h = cc
found_within p (x ∷ xs) h =
    elim (p x) as (λ b. (b || list_any p xs) ≡ true → cond (not b) (1 + prefix_len (λ y. not (p y)) xs) 0 < suc (length xs)) [
      | true ↦ λ e. omega arith
      | false ↦ λ e. let shorter = found_within p xs e in omega arith
    ] h

place_before : (n m : ℕ) → n < m → unwrap_or (cond (nat_lt n m) (Some n) None) 0 < m
place_before n m lt = grind (arith, common_steps)

-- a name that is in a list has a place in it
pub place_within : (name : List ℕ) (names : List (List ℕ)) → has_name name names ≡ true → unwrap_or (index_of name names) 0 < length names
place_within name names h = place_before (position_or_len (same_name name) names) (length names) (found_within (same_name name) names h)

-- the place at which it is found
pub known_place : (name : List ℕ) (names : List (List ℕ)) → has_name name names ≡ true → index_of name names ≡ Some (unwrap_or (index_of name names) 0)
known_place name names known =
    let found = cond-true (nat_lt (position_or_len (same_name name) names) (length names)) (Some (position_or_len (same_name name) names)) None
    (lt-ltb _ _ (found_within (same_name name) names known)) in
    found ∙ ap (λ o. Some (unwrap_or o 0)) (sym found)

-- what is found has the name
pub found_named : (name : List ℕ) (names : List (List ℕ)) (k : ℕ) → index_of name names ≡ Some k → get_or names k [] ≡ name
found_named name names k found = sym ((bytes_decides name (get_or names k [])).0 (position-Some (same_name name) names k [] found).1)

pub found_below : (name : List ℕ) (names : List (List ℕ)) (k : ℕ) → index_of name names ≡ Some k → k < length names
found_below name names k found = (position-Some (same_name name) names k [] found).0

pub known_named : (name : List ℕ) (names : List (List ℕ)) → has_name name names ≡ true → get_or names (unwrap_or (index_of name names) 0) [] ≡ name
known_named name names known = found_named name names _ (known_place name names known)

pub found_stands : (name : List ℕ) (names : List (List ℕ)) (k : ℕ) → index_of name names ≡ Some k → Contains names name
found_stands name names k found =
    known_stands name names (list_any_at (same_name name) names k [] (found_below name names k found) (position-Some (same_name name) names k [] found).1)

-- ---- names that are apart

-- an earlier name is another
earlier_differs : (names : List (List ℕ)) → AreDistinctNames names → (k : ℕ) → k < length names → (j : ℕ) → j < k → same_name (get_or names k []) (get_or names j []) ≡ false
earlier_differs names apart k within j before =
    false_from_ne_true _ (λ same.
    let here : same_name (get_or names k []) (get_or (take k names) j []) ≡ true = ap (same_name (get_or names k [])) (get_or-take k names j [] before) ∙ same in
    let in_front : j < length (take k names) = omega (arith, before, length-take-le k names (omega arith)) in
    false≢true (sym (apart k within) ∙ list_any_at (same_name (get_or names k [])) (take k names) j [] in_front here))

-- a name that stands at a place and not before it is found there
first_place : (name : List ℕ) (names : List (List ℕ)) (k : ℕ) → k < length names → same_name name (get_or names k []) ≡ true → ((j : ℕ) → j < k → same_name name (get_or names j []) ≡ false) → index_of name names ≡ Some k
first_place name names k within here before =
    let at : position_or_len (same_name name) names ≡ k
    = position_or_len_is (same_name name) names k [] (omega arith) before (λ _. here) in
    ap (λ n. cond (nat_lt n (length names)) (Some n) None) at ∙ cond-true (nat_lt k (length names)) (Some k) None (lt-ltb _ _ within)

-- each is found at its own place
pub own_place : (names : List (List ℕ)) → AreDistinctNames names → (k : ℕ) → k < length names → index_of (get_or names k []) names ≡ Some k
own_place names apart k within =
    let name = get_or names k [] in
    first_place name names k within ((bytes_decides name name).1 refl) (earlier_differs names apart k within)

-- a name that is the one at a place of a list without equal ones is found there
pub distinct_place : (name known : List ℕ) (names : List (List ℕ)) (k : ℕ) → IsDistinct same_name names → k < length names → known ≡ get_or names k [] → same_name known name ≡ true → index_of name names ≡ Some k
distinct_place name known names k distinct within at same =
    let one : get_or names k [] ≡ name = sym at ∙ (bytes_decides known name).0 same in
    let others_before : (j : ℕ) → j < k → same_name name (get_or names j []) ≡ false
    = λ j before. false_from_ne_true _ (λ equal. AllPairs-from_IsDistinct bytes_decides names distinct j k [] before within (sym ((bytes_decides name (get_or names j [])).0 equal) ∙ sym one)) in
    first_place name names k within ((bytes_decides name (get_or names k [])).1 (sym one)) others_before

pub names_found : (names : List (List ℕ)) → AreDistinctNames names → AreFound names
names_found names apart = record { named = λ name k. found_named name names k; own = own_place names apart }

-- two places with one name are one
pub one_place : (names : List (List ℕ)) → AreDistinctNames names → (k j : ℕ) → k < length names → j < length names → get_or names k [] ≡ get_or names j [] → k ≡ j
one_place names apart k j k_within j_within same =
    ap (λ o. unwrap_or o 0) (sym (own_place names apart k k_within) ∙ ap (λ name. index_of name names) same ∙ own_place names apart j j_within)

-- the same for entries, by their names
module _ {X : Type 0} (f : X → List ℕ) (entries : List X) where
  pub entry_found : (name : List ℕ) (k : ℕ) (d : X) → index_of name (map f entries) ≡ Some k → f (get_or entries k d) ≡ name
  entry_found name k d found =
      let within : k < length entries = omega (arith, found_below name (map f entries) k found, length-map entries f) in
      sym (get_or-map f entries k d [] within) ∙ found_named name (map f entries) k found

  pub own_entry : AreDistinctNames (map f entries) → (k : ℕ) (d : X) → k < length entries → index_of (f (get_or entries k d)) (map f entries) ≡ Some k
  own_entry apart k d within =
      ap (λ name. index_of name (map f entries)) (sym (get_or-map f entries k d [] within)) ∙ own_place (map f entries) apart k (omega (arith, within, length-map entries f))

-- new names behind others that are apart
pub apart_behind : (names others : List (List ℕ)) → AreDistinctNames names → AreNew names others → AreDistinctNames (names ++ others)
apart_behind names others apart new k within =
    elim (cases_lt k (length names)) [
      | inl before ↦
          ap (λ name. has_name name (take k (names ++ others))) (get_or_append_left names others [] k before)
          ∙ ap (has_name (get_or names k [])) (take-append-le k names others (omega arith)) ∙ apart k before
      | inr behind ↦
          let n = k - length names in
          let at : k ≡ length names + n = omega (arith, behind) in
          ap (λ name. has_name name (take k (names ++ others))) (get_or-append_right names others (length names) k [] refl behind)
          ∙ ap (has_name (get_or others n [])) (ap (λ m. take m (names ++ others)) at ∙ take-append-add names others n)
          ∙ new n (omega (arith, within, behind, length-append names others))
    ]

-- a name that is in a list is found
pub found_somewhere : (result : Option ℕ) (name : List ℕ) (searched names : List (List ℕ)) → is_some result ≡ has_name name searched → searched ≡ names → has_name name names ≡ true → result ≡ None → ⊥
found_somewhere result name searched names found same known none =
    let e : is_some {T = ℕ} None ≡ true = ap is_some (sym none) ∙ found ∙ ap (has_name name) same ∙ known in
    cc
