-- Lists of numbers that stand in them once: which numbers they have, and sums over them.
use Rattle.std.proofs.Common.{◌≡◌, ℕ, suc, ◌+◌, ◌≤◌, ◌⊎◌, inl, inr, Bool, true, false, cond, not, ◌&&◌, ◌||◌, List, [], ◌∷◌, ◌++◌, length, get_or, refl, sym, ap, ◌∙◌, subst, arith}
use Rattle.std.specs.Prelude.{All, ◌==◌, filter, sum_by, count_by}
use Rattle.std.specs.List.{list_any}
use Rattle.std.specs.List.Sorted.{IsPermutation}
use Rattle.std.proofs.lemmas.Bool.{true≢false, false≢true, eqb-true, eq-eqb, and_right, or_parts, or_cases, false_from_ne_true, not_from_true, not_from_false, cond-true, cond-false}
use Rattle.std.proofs.lemmas.List.Elements.{All-head, All-tail}
use Rattle.std.proofs.lemmas.List.Folds.{list_any_at}
use Rattle.std.proofs.lemmas.List.Sums.{sum_by-cons}
use Rattle.std.proofs.lemmas.List.Sorted.{IsPermutation-refl, IsPermutation-cons, IsPermutation-trans, IsPermutation-middle, IsPermutation-sym, sum_by-IsPermutation, list_any-IsPermutation}
use Rattle.cl_tune.specs.Inner.Filling.{without, AreDistinct}

-- ---- which numbers a list has

-- whether a number stands in a list
abbrev pub has : ℕ → List ℕ → Bool
has x xs = list_any (λ y. y == x) xs

pub has_itself : (x : ℕ) → (x == x) ≡ true
has_itself x = eq-eqb x x refl

pub has_head : (x : ℕ) (xs : List ℕ) → has x (x ∷ xs) ≡ true
has_head x xs = ap (λ b. b || has x xs) (has_itself x)

pub has_more : (x y : ℕ) (xs : List ℕ) → has x xs ≡ true → has x (y ∷ xs) ≡ true
has_more x y xs is = elim (y == x) as (λ b. (b || has x xs) ≡ true) [ true ↦ refl | false ↦ is ]

-- a number in a longer list is the head or stands in the rest
pub has_cases : (x y : ℕ) (xs : List ℕ) → has x (y ∷ xs) ≡ true → (y ≡ x) ⊎ (has x xs ≡ true)
has_cases x y xs is = elim (or_cases (y == x) (has x xs) is) [ inl e ↦ inl (eqb-true y x e) | inr rest ↦ inr rest ]

pub all_at : (P : ℕ → Type 0) (xs : List ℕ) (x : ℕ) → All P xs → has x xs ≡ true → P x
all_at P [] x all is = absurd (false≢true is)
all_at P (y ∷ ys) x all is = elim (has_cases x y ys is) [
  | inl e ↦ subst P e (All-head P y ys all)
  | inr rest ↦ all_at P ys x (All-tail P y ys all) rest
]

pub has_place : (P : ℕ → Type 0) (xs : List ℕ) → ((x : ℕ) → has x xs ≡ true → P x) → All P xs
has_place P xs each k d within = each (get_or xs k d) (list_any_at (λ y. y == get_or xs k d) xs k d within (has_itself (get_or xs k d)))

module _ (p : ℕ → Bool) (x : ℕ) where
  pub has_filter : (xs : List ℕ) → has x (filter p xs) ≡ (has x xs && p x)
  has_filter [] = refl
  has_filter (y ∷ ys) = go (p y) (y == x) refl refl (has_filter ys)
    where
      go : (a b : Bool) → p y ≡ a → (y == x) ≡ b → has x (filter p ys) ≡ (has x ys && p x)
          → has x (cond a (y ∷ filter p ys) (filter p ys)) ≡ ((b || has x ys) && p x)
      go true true pa pb rest = ap (λ t. t || has x (filter p ys)) pb ∙ sym (ap p (sym (eqb-true y x pb)) ∙ pa)
      go true false pa pb rest = ap (λ t. t || has x (filter p ys)) pb ∙ rest
      go false true pa pb rest =
          let none : p x ≡ false = ap p (sym (eqb-true y x pb)) ∙ pa in
          rest ∙ and_right (has x ys) (p x) none ∙ sym none
      go false false pa pb rest = rest

pub has_append : (x : ℕ) (xs ys : List ℕ) → has x (xs ++ ys) ≡ (has x xs || has x ys)
has_append x [] ys = refl
has_append x (z ∷ zs) ys = elim (z == x) as (λ b. (b || has x (zs ++ ys)) ≡ ((b || has x zs) || has x ys)) [ true ↦ refl | false ↦ has_append x zs ys ]

-- ---- once

pub distinct_filter : (p : ℕ → Bool) (xs : List ℕ) → AreDistinct xs → AreDistinct (filter p xs)
distinct_filter p [] once = tt
distinct_filter p (x ∷ xs) once = elim (p x) as (λ b. AreDistinct (cond b (x ∷ filter p xs) (filter p xs))) [
  | true ↦ (has_filter p x xs ∙ ap (λ b. b && p x) once.0, distinct_filter p xs once.1)
  | false ↦ distinct_filter p xs once.1
]

pub without_absent : (x : ℕ) (xs : List ℕ) → has x xs ≡ false → without x xs ≡ xs
without_absent x [] absent = refl
without_absent x (y ∷ ys) absent =
    let parts = or_parts (y == x) (has x ys) absent in
    cond-true (not (y == x)) (y ∷ without x ys) (without x ys) (not_from_false (y == x) parts.0) ∙ ap (λ zs. y ∷ zs) (without_absent x ys parts.1)

pub without_head : (x : ℕ) (xs : List ℕ) → has x xs ≡ false → without x (x ∷ xs) ≡ xs
without_head x xs absent = cond-false (not (x == x)) (x ∷ without x xs) (without x xs) (not_from_true (x == x) (has_itself x)) ∙ without_absent x xs absent

pub without_other : (x y : ℕ) (xs : List ℕ) → (y == x) ≡ false → without x (y ∷ xs) ≡ y ∷ without x xs
without_other x y xs other = cond-true (not (y == x)) (y ∷ without x xs) (without x xs) (not_from_false (y == x) other)

-- a number that stands in a list is taken out of it
module _ (x : ℕ) where
  pub length_without : (xs : List ℕ) → AreDistinct xs → has x xs ≡ true → length xs ≡ suc (length (without x xs))
  length_without [] once is = absurd (false≢true is)
  length_without (y ∷ ys) once is = go (y == x) refl (length_without ys once.1)
    where
      go : (b : Bool) → (y == x) ≡ b → (has x ys ≡ true → length ys ≡ suc (length (without x ys))) → suc (length ys) ≡ suc (length (without x (y ∷ ys)))
      go true e again =
          let same = eqb-true y x e in
          let absent : has x ys ≡ false = ap (λ n. has n ys) (sym same) ∙ once.0 in
          ap (λ (zs : List ℕ). suc (length zs)) (sym (without_head x ys absent) ∙ ap (λ n. without x (n ∷ ys)) (sym same))
      go false e again =
          let rest : has x ys ≡ true = sym (ap (λ b. b || has x ys) e) ∙ is in
          ap suc (again rest) ∙ ap (λ (zs : List ℕ). suc (length zs)) (sym (without_other x y ys e))

  pub sum_without : (f : ℕ → ℕ) (xs : List ℕ) → AreDistinct xs → has x xs ≡ true → sum_by f xs ≡ f x + sum_by f (without x xs)
  sum_without f [] once is = absurd (false≢true is)
  sum_without f (y ∷ ys) once is = go (y == x) refl (sum_without f ys once.1)
    where
      go : (b : Bool) → (y == x) ≡ b → (has x ys ≡ true → sum_by f ys ≡ f x + sum_by f (without x ys)) → sum_by f (y ∷ ys) ≡ f x + sum_by f (without x (y ∷ ys))
      go true e again =
          let same = eqb-true y x e in
          let absent : has x ys ≡ false = ap (λ n. has n ys) (sym same) ∙ once.0 in
          let rest : without x (y ∷ ys) ≡ ys = ap (λ n. without x (n ∷ ys)) same ∙ without_head x ys absent in
          sum_by-cons f y ys ∙ ap (λ n. f n + sum_by f ys) same ∙ ap (λ (zs : List ℕ). f x + sum_by f zs) (sym rest)
      go false e again =
          let rest : has x ys ≡ true = sym (ap (λ b. b || has x ys) e) ∙ is in
          let more : sum_by f (without x (y ∷ ys)) ≡ f y + sum_by f (without x ys) = ap (sum_by f) (without_other x y ys e) ∙ sum_by-cons f y (without x ys) in
          omega (arith, sum_by-cons f y ys, again rest, more)

  pub permuted_without : (xs : List ℕ) → AreDistinct xs → has x xs ≡ true → IsPermutation xs (x ∷ without x xs)
  permuted_without [] once is = absurd (false≢true is)
  permuted_without (y ∷ ys) once is = go (y == x) refl (permuted_without ys once.1)
    where
      go : (b : Bool) → (y == x) ≡ b → (has x ys ≡ true → IsPermutation ys (x ∷ without x ys)) → IsPermutation (y ∷ ys) (x ∷ without x (y ∷ ys))
      go true e again =
          let same = eqb-true y x e in
          let absent : has x ys ≡ false = ap (λ n. has n ys) (sym same) ∙ once.0 in
          let rest : without x (y ∷ ys) ≡ ys = ap (λ n. without x (n ∷ ys)) same ∙ without_head x ys absent in
          subst (λ (zs : List ℕ). IsPermutation (y ∷ ys) zs) (ap (λ n. n ∷ ys) same ∙ ap (λ zs. x ∷ zs) (sym rest)) (IsPermutation-refl (y ∷ ys))
      go false e again =
          let rest : has x ys ≡ true = sym (ap (λ b. b || has x ys) e) ∙ is in
          subst (λ (zs : List ℕ). IsPermutation (y ∷ ys) (x ∷ zs)) (sym (without_other x y ys e))
          (IsPermutation-trans (y ∷ ys) (y ∷ x ∷ without x ys) (x ∷ y ∷ without x ys)
          (IsPermutation-cons y ys (x ∷ without x ys) (again rest))
          (IsPermutation-middle (y ∷ []) x (without x ys)))

-- ---- two lists that have the same numbers

-- each has the numbers of the other
abbrev pub HaveSame : List ℕ → List ℕ → Type 0
HaveSame xs ys = (x : ℕ) → has x xs ≡ has x ys

-- without the head of one, they still do
pub same_without : (x : ℕ) (xs ys : List ℕ) → has x xs ≡ false → HaveSame (x ∷ xs) ys → HaveSame xs (without x ys)
same_without x xs ys absent same z = sym (has_filter (λ y. not (y == x)) z ys ∙ go (z == x) refl)
  where
    go : (b : Bool) → (z == x) ≡ b → (has z ys && not (z == x)) ≡ has z xs
    go true e =
        let is = eqb-true z x e in
        and_right (has z ys) (not (z == x)) (not_from_true (z == x) e) ∙ sym (ap (λ n. has n xs) is ∙ absent)
    go false e =
        let other : (x == z) ≡ false = false_from_ne_true (x == z) (λ t. true≢false (sym (eq-eqb z x (sym (eqb-true x z t))) ∙ e)) in
        let rest : has z ys ≡ has z xs = sym (same z) ∙ ap (λ b. b || has z xs) other in
        ap (λ b. has z ys && b) (not_from_false (z == x) e) ∙ pass (has z ys) ∙ rest
      where
        pass : (b : Bool) → (b && true) ≡ b
        pass true = refl
        pass false = refl

none_in : (ys : List ℕ) → HaveSame [] ys → ys ≡ []
none_in [] same = refl
none_in (y ∷ ys) same = absurd (false≢true (same y ∙ has_head y ys))

pub sums_agree : (f : ℕ → ℕ) (xs ys : List ℕ) → AreDistinct xs → AreDistinct ys → HaveSame xs ys → sum_by f xs ≡ sum_by f ys
sums_agree f [] ys one other same = ap (sum_by f) (sym (none_in ys same))
sums_agree f (x ∷ xs) ys one other same =
    let there : has x ys ≡ true = sym (same x) ∙ has_head x xs in
    let rest = sums_agree f xs (without x ys) one.1 (distinct_filter (λ y. not (y == x)) ys other) (same_without x xs ys one.0 same) in
    omega (arith, sum_by-cons f x xs, sum_without x f ys other there, rest)

pub lengths_agree : (xs ys : List ℕ) → AreDistinct xs → AreDistinct ys → HaveSame xs ys → length xs ≡ length ys
lengths_agree [] ys one other same = ap length (sym (none_in ys same))
lengths_agree (x ∷ xs) ys one other same =
    let there : has x ys ≡ true = sym (same x) ∙ has_head x xs in
    let rest = lengths_agree xs (without x ys) one.1 (distinct_filter (λ y. not (y == x)) ys other) (same_without x xs ys one.0 same) in
    ap suc rest ∙ sym (length_without x ys other there)

pub permutes : (xs ys : List ℕ) → AreDistinct xs → AreDistinct ys → HaveSame xs ys → IsPermutation xs ys
permutes [] ys one other same = subst (λ (zs : List ℕ). IsPermutation [] zs) (sym (none_in ys same)) (IsPermutation-refl [])
permutes (x ∷ xs) ys one other same =
    let there : has x ys ≡ true = sym (same x) ∙ has_head x xs in
    let rest = permutes xs (without x ys) one.1 (distinct_filter (λ y. not (y == x)) ys other) (same_without x xs ys one.0 same) in
    IsPermutation-trans (x ∷ xs) (x ∷ without x ys) ys (IsPermutation-cons x xs (without x ys) rest)
    (IsPermutation-sym ys (x ∷ without x ys) (permuted_without x ys other there))

pub permuted_same : (xs ys : List ℕ) → IsPermutation xs ys → HaveSame xs ys
permuted_same xs ys moved x = list_any-IsPermutation (λ y. y == x) xs ys moved

-- ---- a list in another order has each number once, too

abbrev count : ℕ → List ℕ → ℕ
count x xs = count_by (λ y. y == x) xs

count_cons : (x y : ℕ) (xs : List ℕ) → count x (y ∷ xs) ≡ cond (y == x) 1 0 + count x xs
count_cons x y xs = sum_by-cons (λ (z : ℕ). cond (z == x) 1 0) y xs

absent_none : (x : ℕ) (xs : List ℕ) → has x xs ≡ false → count x xs ≡ 0
absent_none x [] absent = refl
absent_none x (y ∷ ys) absent =
    let parts = or_parts (y == x) (has x ys) absent in
    omega (arith, count_cons x y ys, cond-false {A = ℕ} (y == x) 1 0 parts.0, absent_none x ys parts.1)

present_some : (x : ℕ) (xs : List ℕ) → has x xs ≡ true → 1 ≤ count x xs
present_some x [] is = absurd (false≢true is)
present_some x (y ∷ ys) is = elim (or_cases (y == x) (has x ys) is) [
  | inl e ↦ omega (arith, count_cons x y ys, cond-true {A = ℕ} (y == x) 1 0 e)
  | inr rest ↦ omega (arith, count_cons x y ys, present_some x ys rest)
]

once_few : (x : ℕ) (xs : List ℕ) → AreDistinct xs → count x xs ≤ 1
once_few x [] once = omega arith
once_few x (y ∷ ys) once = go (y == x) refl (once_few x ys once.1)
  where
    go : (b : Bool) → (y == x) ≡ b → count x ys ≤ 1 → count x (y ∷ ys) ≤ 1
    go true e again =
        let absent : has x ys ≡ false = ap (λ n. has n ys) (sym (eqb-true y x e)) ∙ once.0 in
        omega (arith, count_cons x y ys, cond-true {A = ℕ} (y == x) 1 0 e, absent_none x ys absent)
    go false e again = omega (arith, count_cons x y ys, cond-false {A = ℕ} (y == x) 1 0 e, again)

few_once : (xs : List ℕ) → ((x : ℕ) → count x xs ≤ 1) → AreDistinct xs
few_once [] few = tt
few_once (y ∷ ys) few = (
  false_from_ne_true (has y ys) (λ is. absurd (omega (arith, few y, count_cons y y ys, cond-true {A = ℕ} (y == y) 1 0 (has_itself y), present_some y ys is))),
  few_once ys (λ x. omega (arith, few x, count_cons x y ys)),
)

pub permuted_distinct : (xs ys : List ℕ) → IsPermutation xs ys → AreDistinct xs → AreDistinct ys
permuted_distinct xs ys moved once =
    few_once ys (λ x. omega (arith, sum_by-IsPermutation (λ (z : ℕ). cond (z == x) 1 0) xs ys moved, once_few x xs once))
