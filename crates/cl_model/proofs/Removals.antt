-- Lists of which one item is removed: where an item stood before, and what stood in front of it.
use Rattle.std.proofs.Common.{◌≡◌, ℕ, zero, suc, ◌+◌, ◌<◌, ◌≤◌, Bool, false, inl, inr, List, [], ◌∷◌, length, get_or, take, refl, ap, ◌∙◌, arith}
use Rattle.std.specs.List.{list_any, remove}
use Rattle.std.proofs.lemmas.Bool.{cases_lt, or_parts, or_from}
use Rattle.std.proofs.lemmas.List.Edits.{length-remove, get_or-remove_below, get_or-remove_above}
use Rattle.cl_model.specs.{Named.{same_name, has_name}, NameSets.AreDistinctNames, TaskNumbers.number_without}
use Rattle.cl_model.proofs.NumberFacts.{kept_number, moved_number}

-- ---- what stands in front

none_in_front : {X : Type 0} (p : X → Bool) (xs : List X) (i k : ℕ) → k ≤ i → i < length xs → list_any p (take k xs) ≡ false → list_any p (take k (remove xs i)) ≡ false
none_in_front p [] i k le lt none = absurd (omega arith)
none_in_front p (x ∷ xs) i zero le lt none = refl
none_in_front p (x ∷ xs) zero (suc k) le lt none = absurd (omega arith)
none_in_front p (x ∷ xs) (suc i) (suc k) le lt none =
    let parts = or_parts (p x) (list_any p (take k xs)) none in
    or_from (p x) (list_any p (take k (remove xs i))) parts.0 (none_in_front p xs i k (omega arith) (omega arith) parts.1)

none_behind : {X : Type 0} (p : X → Bool) (xs : List X) (i k : ℕ) → i < length xs → list_any p (take (suc k) xs) ≡ false → list_any p (take k (remove xs i)) ≡ false
none_behind p [] i k lt none = absurd (omega arith)
none_behind p (x ∷ xs) zero k lt none = (or_parts (p x) (list_any p (take k xs)) none).1
none_behind p (x ∷ xs) (suc i) zero lt none = refl
none_behind p (x ∷ xs) (suc i) (suc k) lt none =
    let parts = or_parts (p x) (list_any p (take (suc k) xs)) none in
    or_from (p x) (list_any p (take k (remove xs i))) parts.0 (none_behind p xs i k (omega arith) parts.1)

-- where item k stood before item i was removed
pub record StoodAt {X : Type 0} (xs : List X) (i k : ℕ) (d : X) : Type 0 where
  pub at : ℕ
  pub within : at < length xs
  pub other : at ≡ i → ⊥
  pub moved : number_without i at ≡ k
  pub same : get_or (remove xs i) k d ≡ get_or xs at d
  pub fewer : (p : X → Bool) → list_any p (take at xs) ≡ false → list_any p (take k (remove xs i)) ≡ false

pub stood_at : {X : Type 0} (xs : List X) (i k : ℕ) (d : X) → i < length xs → k < length (remove xs i) → StoodAt xs i k d
stood_at xs i k d i_lt k_lt =
    elim (cases_lt k i) [
      | inl before ↦ record {
        at = k;
        within = omega (arith, before, i_lt);
        other = λ same. omega (arith, same, before);
        moved = kept_number i k (omega (arith, before));
        same = get_or-remove_below xs i d k before i_lt;
        fewer = λ p none. none_in_front p xs i k (omega (arith, before)) i_lt none;
      }
      | inr behind ↦
          let more : suc k ≡ k + 1 = omega arith in
          record {
            at = suc k;
            within = omega (arith, length-remove xs i i_lt, k_lt);
            other = λ same. omega (arith, same, behind);
            moved = ap (number_without i) more ∙ moved_number i k behind;
            same = get_or-remove_above xs i d k behind i_lt ∙ ap (λ n. get_or xs n d) (omega arith);
            fewer = λ p none. none_behind p xs i k i_lt none;
          }
    ]

-- names stay apart
pub apart_removed : (names : List (List ℕ)) (i : ℕ) → i < length names → AreDistinctNames names → AreDistinctNames (remove names i)
apart_removed names i i_lt apart k k_lt =
    let stood = stood_at names i k [] i_lt k_lt in
    ap (λ name. has_name name (take k (remove names i))) stood.same ∙ stood.fewer (same_name (get_or names stood.at [])) (apart stood.at stood.within)
