-- The checks of names of which one is added or removed.
use Rattle.std.proofs.Common.{◌≡◌, ℕ, zero, suc, ◌<◌, Bool, true, false, not, cond, ◌||◌, List, [], ◌∷◌, ◌++◌, length, get_or, take, drop, map, refl, sym, ap, ◌∙◌, arith}
use Rattle.std.specs.Prelude.{Some, None, nat_lt}
use Rattle.std.specs.List.{list_any, remove, position, position_or_len}
use Rattle.std.specs.Cmp.Lexicographic.{bytes_decides}
use Rattle.std.proofs.lemmas.Bool.{false_from_ne_true, or_left}
use Rattle.std.proofs.lemmas.Bool.Decides.{nat_tests}
use Rattle.std.proofs.lemmas.Cmp.{nat_list_eq_equiv}
use Rattle.std.proofs.lemmas.List.Quantifiers.{position-Some}
use Rattle.std.proofs.lemmas.List.Sums.{position_or_len_is}
use Rattle.std.proofs.lemmas.List.{length-append, get_or_append_left, take-append-le, take_at, take-map, drop-map, map-append, get_or_default}
use Rattle.std.proofs.lemmas.List.Folds.{list_any-append}
use Rattle.cl_model.specs.{declared.{place.Place.Place, refusal.Code.Code}, Named.{same_name, has_name, index_of}, NameSets.AreDistinctNames, Refusals.when, ValidNames.{repeat_check, repeats}}
use Rattle.cl_model.proofs.{NamePlaces.{known_stands, found_below, found_named, one_place}, Removals.stood_at}
use Rattle.cl_edit.proofs.EachChecked.{each_more, each_same, none_of_each, when_false}

-- names that are apart aren't refused
pub apart_pass : (code : Code) (place : ℕ → Place) (names : List (List ℕ)) → AreDistinctNames names → repeats code place [] names ≡ []
apart_pass code place names apart =
    none_of_each (repeat_check code place [] names) names
    (λ k d lt. when_false _ code (place k) (ap (λ name. has_name name (take k names)) (get_or_default names k d [] lt) ∙ apart k lt))

-- a name that is known is in a longer list
pub known_longer : (name : List ℕ) (names others : List (List ℕ)) → has_name name names ≡ true → has_name name (names ++ others) ≡ true
known_longer name names others known = list_any-append (same_name name) names others ∙ or_left _ _ known

below : (a b : ℕ) → a < b → nat_lt a b ≡ true
below a b h = grind (arith, nat_tests)

-- the first place that passes is found
place_is : {X : Type 0} (p : X → Bool) (xs : List X) (k : ℕ) → position_or_len p xs ≡ k → k < length xs → position p xs ≡ Some k
place_is p xs k e h = ap (λ n. cond (nat_lt n (length xs)) (Some n) None) e ∙ ap (λ b. cond b (Some k) None) (below k (length xs) h)

-- and is found at the same place there
pub index_longer : (name : List ℕ) (names others : List (List ℕ)) (k : ℕ) → index_of name names ≡ Some k → index_of name (names ++ others) ≡ Some k
index_longer name names others k found =
    let first = position-Some (same_name name) names k [] found in
    let within : k < length (names ++ others) = omega (arith, first.0, length-append names others) in
    place_is (same_name name) (names ++ others) k
    (position_or_len_is (same_name name) (names ++ others) k [] (omega (arith, within))
    (λ j j_lt. ap (same_name name) (get_or_append_left names others [] j (omega (arith, j_lt, first.0))) ∙ first.2 j j_lt)
    (λ _. ap (same_name name) (get_or_append_left names others [] k first.0) ∙ first.1))
    within

-- one more name
pub repeats_more : (code : Code) (place : ℕ → Place) (before names : List (List ℕ)) (name : List ℕ)
    → repeats code place before (names ++ name ∷ []) ≡ repeats code place before names ++ when (has_name name (before ++ names)) code (place (length names))
repeats_more code place before names name =
    let all : List (List ℕ) = names ++ name ∷ [] in
    each_more (repeat_check code place before all) names name
    ∙ ap (λ l. l ++ repeat_check code place before all (length names) name)
    (each_same (repeat_check code place before all) (repeat_check code place before names) names
    (λ k d lt. ap (λ l. when (has_name (get_or names k d) (before ++ l)) code (place k)) (take-append-le k names (name ∷ []) (omega arith))))
    ∙ ap (λ l. repeats code place before names ++ when (has_name name (before ++ l)) code (place (length names))) (take_at names (name ∷ []) (length names) refl)

-- ---- one name less

pub map-remove : {X Y : Type 0} (f : X → Y) (xs : List X) (i : ℕ) → map f (remove xs i) ≡ remove (map f xs) i
map-remove f xs i =
    map-append f (take i xs) (drop (suc i) xs) ∙ ap (λ l. l ++ map f (drop (suc i) xs)) (sym (take-map f i xs)) ∙ ap (λ l. take i (map f xs) ++ l) (sym (drop-map f (suc i) xs))

or_swap : (a b c : Bool) → (a || (b || c)) ≡ (b || (a || c))
or_swap true true c = refl
or_swap true false c = refl
or_swap false true c = refl
or_swap false false c = refl

-- some item passes where the removed one does or another
pub any_removed : {X : Type 0} (p : X → Bool) (xs : List X) (i : ℕ) (d : X) → i < length xs → list_any p xs ≡ (p (get_or xs i d) || list_any p (remove xs i))
any_removed p [] i d lt = absurd (omega arith)
any_removed p (x ∷ xs) zero d lt = refl
any_removed p (x ∷ xs) (suc i) d lt =
    ap (λ b. p x || b) (any_removed p xs i d (omega arith)) ∙ or_swap (p x) (p (get_or xs i d)) (list_any p (remove xs i))

-- where one of two passes and the one doesn't the other does
pub only_other : (a b : Bool) → (a || b) ≡ true → a ≡ false → b ≡ not a
only_other true b some not_one = absurd cc
only_other false b some not_one = some

-- of names that are apart, a known one is left where it isn't the removed one
pub left_names : (names : List (List ℕ)) (name other : List ℕ) (c : ℕ) → AreDistinctNames names → index_of name names ≡ Some c → has_name other names ≡ true
    → has_name other (remove names c) ≡ not (same_name name other)
left_names names name other c apart found known =
    elim (same_name name other) as (λ b. same_name name other ≡ b → has_name other (remove names c) ≡ not b) [
      | true ↦ λ same. false_from_ne_true _ (λ still. gone still ((bytes_decides name other).0 same))
      | false ↦ λ apart_is.
          let differs : same_name other (get_or names c []) ≡ false = nat_list_eq_equiv.symm other (get_or names c []) ∙ ap (λ n. same_name n other) at ∙ apart_is in
          only_other (same_name other (get_or names c [])) (has_name other (remove names c)) (sym (any_removed (same_name other) names c [] within) ∙ known) differs
          ∙ ap not differs
    ] refl
  where
    within : c < length names
    within = found_below name names c found

    at : get_or names c [] ≡ name
    at = found_named name names c found

    gone : has_name other (remove names c) ≡ true → name ≡ other → ⊥
    gone still same =
        let (k, k_lt, k_is) = known_stands other (remove names c) still in
        let stood = stood_at names c k [] within k_lt in
        let there : get_or names stood.at [] ≡ get_or names c [] = sym stood.same ∙ get_or_default (remove names c) k [] other k_lt ∙ k_is ∙ sym same ∙ sym at in
        stood.other (one_place names apart stood.at c stood.within within there)
