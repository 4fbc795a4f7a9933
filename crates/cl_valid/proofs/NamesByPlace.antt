-- Where a name stands in a list without repeats.
use Rattle.std.proofs.Common.{◌≡◌, ◌≢◌, ℕ, ◌<◌, false, List, [], length, get_or, take, Some, inl, inr, sym, ap, ◌∙◌, arith}
use Rattle.std.proofs.lemmas.Bool.{cases_order, false≢true, false_from_ne_true}
use Rattle.std.proofs.lemmas.Cmp.{nat_list_eq_equiv}
use Rattle.std.proofs.lemmas.List.{get_or-take, length-take}
use Rattle.std.proofs.lemmas.List.Folds.{list_any_at}
use Rattle.std.proofs.lemmas.List.Quantifiers.{position-Some}
use Rattle.std.specs.Cmp.Lexicographic.{bytes_decides}
use Rattle.cl_model.specs.{Named.{same_name, index_of}, NameSets.AreDistinctNames}

-- a name stands at its place
pub place_is : (name : List ℕ) (names : List (List ℕ)) (n : ℕ) → index_of name names ≡ Some n → (n < length names) × (name ≡ get_or names n [])
place_is name names n h =
    let p = position-Some (same_name name) names n [] h in
    (p.0, (bytes_decides name (get_or names n [])).0 p.1)

earlier_differs : (names : List (List ℕ)) (j k : ℕ) → AreDistinctNames names → j < k → k < length names → same_name (get_or names k []) (get_or names j []) ≡ false
earlier_differs names j k apart before within =
    let short : j < length (take k names) = omega (arith, length-take k names) in
    ap (same_name (get_or names k [])) (sym (get_or-take k names j [] before))
    ∙ false_from_ne_true _ (λ same. false≢true (sym (apart k within) ∙ list_any_at (same_name (get_or names k [])) (take k names) j [] short same))

-- two places of a list without repeats have different names
pub places_differ : (names : List (List ℕ)) (j k : ℕ) → AreDistinctNames names → j < length names → k < length names → j ≢ k → same_name (get_or names k []) (get_or names j []) ≡ false
places_differ names j k apart j_lt k_lt ne = elim (cases_order j k) [
  | inl same ↦ absurd (ne same)
  | inr different ↦ elim different [
    | inl before ↦ earlier_differs names j k apart before k_lt
    | inr after ↦ nat_list_eq_equiv.symm (get_or names k []) (get_or names j []) ∙ earlier_differs names k j apart after j_lt
  ]
]
