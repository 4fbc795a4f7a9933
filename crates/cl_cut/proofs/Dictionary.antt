-- Lists of numbers in dictionary order.
use Rattle.std.proofs.Common.{◌≡◌, ℕ, ◌<◌, ◌==◌, cond, inl, inr, List, [], ◌∷◌, refl, sym, ap, ◌∙◌, arith}
use Rattle.std.specs.Ordering.{nat_cmp, ordering_then}
use Rattle.std.specs.Cmp.Lexicographic.{slice_cmp}
use Rattle.std.specs.declared.cmp.Ordering.TheVariants.{Less, Equal, Greater}
use Rattle.std.proofs.lemmas.Bool.{cases_lt, lt-ltb, le-ltb, eq-eqb, ne_eqb}
use Rattle.cl_cut.specs.Cuts.{IsNotAfter}

cmp_same : (x : ℕ) → nat_cmp x x ≡ Equal
cmp_same x =
    ap (λ b. cond b Less (cond (x == x) Equal Greater)) (le-ltb x x (omega arith)) ∙ ap (λ b. cond b Equal Greater) (eq-eqb x x refl)

cmp_less : (x y : ℕ) → x < y → nat_cmp x y ≡ Less
cmp_less x y less = ap (λ b. cond b Less (cond (x == y) Equal Greater)) (lt-ltb x y less)

cmp_greater : (x y : ℕ) → y < x → nat_cmp x y ≡ Greater
cmp_greater x y greater =
    ap (λ b. cond b Less (cond (x == y) Equal Greater)) (le-ltb x y (omega arith))
    ∙ ap (λ b. cond b Equal Greater) (ne_eqb x y (λ same. absurd (omega arith)))

first_decides : (x y : ℕ) (xs ys : List ℕ) → nat_cmp x y ≡ Less → slice_cmp nat_cmp (x ∷ xs) (y ∷ ys) ≡ Less
first_decides x y xs ys less = ap (λ o. ordering_then o (slice_cmp nat_cmp xs ys)) less

-- lists with one first number compare by the rest
same_first : (x : ℕ) (xs ys : List ℕ) → slice_cmp nat_cmp (x ∷ xs) (x ∷ ys) ≡ slice_cmp nat_cmp xs ys
same_first x xs ys = ap (λ o. ordering_then o (slice_cmp nat_cmp xs ys)) (cmp_same x)

pub not_after_rest : (x : ℕ) (xs ys : List ℕ) → IsNotAfter xs ys → IsNotAfter (x ∷ xs) (x ∷ ys)
not_after_rest x xs ys rest after = rest (sym (same_first x xs ys) ∙ after)

-- a lesser number decides
pub not_after_less : (x y : ℕ) (xs ys : List ℕ) → x < y → IsNotAfter (x ∷ xs) (y ∷ ys)
not_after_less x y xs ys less after = let is = first_decides x y xs ys (cmp_less x y less) in absurd cc

pub not_after_empty : (ys : List ℕ) → IsNotAfter [] ys
not_after_empty [] after = absurd cc
not_after_empty (y ∷ ys) after = absurd cc

-- two lists of which none comes after the other are the same
pub same_list : (xs ys : List ℕ) → IsNotAfter xs ys → IsNotAfter ys xs → xs ≡ ys
same_list [] [] one other = refl
same_list [] (y ∷ ys) one other = absurd (other refl)
same_list (x ∷ xs) [] one other = absurd (one refl)
same_list (x ∷ xs) (y ∷ ys) one other = elim (cases_lt x y) [
  | inl less ↦ absurd (other (ap (λ o. ordering_then o (slice_cmp nat_cmp ys xs)) (cmp_greater y x less)))
  | inr within ↦ elim (cases_lt y x) [
    | inl less ↦ absurd (one (ap (λ o. ordering_then o (slice_cmp nat_cmp xs ys)) (cmp_greater x y less)))
    | inr also ↦
        let same : y ≡ x = omega arith in
        let rest : xs ≡ ys = same_list xs ys (λ after. one (ap (λ n. slice_cmp nat_cmp (x ∷ xs) (n ∷ ys)) same ∙ same_first x xs ys ∙ after))
        (λ after. other (ap (λ n. slice_cmp nat_cmp (n ∷ ys) (x ∷ xs)) same ∙ same_first x ys xs ∙ after)) in
        ap (λ n. n ∷ xs) (sym same) ∙ ap (λ list. y ∷ list) rest
  ]
]
