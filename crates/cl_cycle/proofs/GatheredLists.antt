-- Lists that are filtered, folded and added up.
use Rattle.std.proofs.Common.{◌≡◌, ℕ, zero, suc, ◌+◌, ◌<◌, ◌≤◌, Bool, true, false, cond, ◌&&◌, List, [], ◌∷◌, ◌++◌, length, get_or, take, drop, refl, sym, ap, ◌∙◌, arith}
use Rattle.std.specs.Prelude.{All, sum_by}
use Rattle.std.specs.List.{filter, fold, flat_map, range_with_len}
use Rattle.std.proofs.lemmas.List.{append-nil, length-append}
use Rattle.std.proofs.lemmas.List.Elements.{All-head, All-tail, filter_more, filter-append}
use Rattle.std.proofs.lemmas.List.Filters.{length-filter_more}
use Rattle.std.proofs.lemmas.List.Sums.{fold_push, sum_by-cons}
use Rattle.std.proofs.Math.ListN.{take-append-drop}

-- ---- tests that agree at each element

-- two tests that agree at each element keep the same ones
pub filters_agree : {X : Type 0} (p q : X → Bool) (xs : List X) → All (λ x. p x ≡ q x) xs → filter p xs ≡ filter q xs
filters_agree p q [] same = refl
filters_agree p q (x ∷ xs) same =
    ap (λ b. cond b (x ∷ filter p xs) (filter p xs)) (All-head (λ y. p y ≡ q y) x xs same)
    ∙ ap (λ ys. cond (q x) (x ∷ ys) ys) (filters_agree p q xs (All-tail (λ y. p y ≡ q y) x xs same))

-- a test that no element passes keeps none
pub filter_none : {X : Type 0} (p : X → Bool) (xs : List X) → All (λ x. p x ≡ false) xs → filter p xs ≡ []
filter_none p [] none = refl
filter_none p (x ∷ xs) none =
    ap (λ b. cond b (x ∷ filter p xs) (filter p xs)) (All-head (λ y. p y ≡ false) x xs none)
    ∙ filter_none p xs (All-tail (λ y. p y ≡ false) x xs none)

-- to filter by two tests, one after the other
pub filter-both : {X : Type 0} (p q : X → Bool) (xs : List X) → filter (λ x. p x && q x) xs ≡ filter q (filter p xs)
filter-both p q [] = refl
filter-both p q (x ∷ xs) =
    let rest = filter-both p q xs in
    elim (p x) as (λ b. cond (b && q x) (x ∷ filter (λ y. p y && q y) xs) (filter (λ y. p y && q y) xs) ≡ filter q (cond b (x ∷ filter p xs) (filter p xs))) [
      | true ↦ elim (q x) as (λ b. cond b (x ∷ filter (λ y. p y && q y) xs) (filter (λ y. p y && q y) xs) ≡ cond b (x ∷ filter q (filter p xs)) (filter q (filter p xs))) [
        | true ↦ ap (λ ys. x ∷ ys) rest
        | false ↦ rest
      ]
      | false ↦ rest
    ]

-- two terms that agree at each element have one sum
pub sums_agree : {X : Type 0} (f g : X → ℕ) (xs : List X) → All (λ x. f x ≡ g x) xs → sum_by f xs ≡ sum_by g xs
sums_agree f g [] same = refl
sums_agree f g (x ∷ xs) same =
    sum_by-cons f x xs ∙ ap (λ n. n + sum_by f xs) (All-head (λ y. f y ≡ g y) x xs same)
    ∙ ap (λ n. g x + n) (sums_agree f g xs (All-tail (λ y. f y ≡ g y) x xs same)) ∙ sym (sum_by-cons g x xs)

-- two lists that agree for each element make one
pub flat_maps_agree : {X Y : Type 0} (f g : X → List Y) → ((x : X) → f x ≡ g x) → (xs : List X) → flat_map f xs ≡ flat_map g xs
flat_maps_agree f g same [] = refl
flat_maps_agree f g same (x ∷ xs) = ap (λ ys. ys ++ flat_map f xs) (same x) ∙ ap (λ ys. g x ++ ys) (flat_maps_agree f g same xs)

-- ---- one element more

module _ {X Y : Type 0} (f : Y → X → Y) (a : Y) (test : X → Bool) (xs : List X) (i : ℕ) (d : X) (within : i < length xs) where
  -- an element that passes is folded in
  pub fold_more_yes : test (get_or xs i d) ≡ true → fold f a (filter test (take (i + 1) xs)) ≡ f (fold f a (filter test (take i xs))) (get_or xs i d)
  fold_more_yes passes =
      ap (fold f a) (filter_more test xs i d within ∙ ap (λ b. filter test (take i xs) ++ cond b (get_or xs i d ∷ []) []) passes)
      ∙ fold_push f a (filter test (take i xs)) (get_or xs i d)

  -- one that does not changes nothing
  pub fold_more_no : test (get_or xs i d) ≡ false → fold f a (filter test (take (i + 1) xs)) ≡ fold f a (filter test (take i xs))
  fold_more_no fails =
      ap (fold f a) (filter_more test xs i d within ∙ ap (λ b. filter test (take i xs) ++ cond b (get_or xs i d ∷ []) []) fails
      ∙ append-nil (filter test (take i xs)))

module _ {X : Type 0} (test : X → Bool) (xs : List X) (i : ℕ) (d : X) (within : i < length xs) where
  -- an element that passes makes the list longer by one
  pub length_more_yes : test (get_or xs i d) ≡ true → length (filter test (take (i + 1) xs)) ≡ length (filter test (take i xs)) + 1
  length_more_yes passes = length-filter_more test xs i d within ∙ ap (λ b. length (filter test (take i xs)) + cond b 1 0) passes

  -- no element makes it shorter
  pub length_more_le : length (filter test (take i xs)) ≤ length (filter test (take (i + 1) xs))
  length_more_le = omega (arith, length-filter_more test xs i d within)

-- of the first elements no more pass than of all
pub length_taken : {X : Type 0} (test : X → Bool) (xs : List X) (i : ℕ) → length (filter test (take i xs)) ≤ length (filter test xs)
length_taken test xs i =
    let whole = ap length (sym (filter-append test (take i xs) (drop i xs)) ∙ ap (filter test) (take-append-drop i xs)) in
    omega (arith, whole, length-append (filter test (take i xs)) (filter test (drop i xs)))

-- what passes one of two tests passes a third, and nothing passes both
pub lengths_apart : {X : Type 0} (p q r : X → Bool) (xs : List X) → All (λ x. cond (p x) 1 0 ≡ cond (q x) 1 0 + cond (r x) 1 0) xs
    → length (filter p xs) ≡ length (filter q xs) + length (filter r xs)
lengths_apart p q r [] apart = omega arith
lengths_apart p q r (x ∷ xs) apart =
    let here = All-head (λ y. cond (p y) 1 0 ≡ cond (q y) 1 0 + cond (r y) 1 0) x xs apart in
    let rest = lengths_apart p q r xs (All-tail (λ y. cond (p y) 1 0 ≡ cond (q y) 1 0 + cond (r y) 1 0) x xs apart) in
    omega (arith, longer (p x) x (filter p xs), longer (q x) x (filter q xs), longer (r x) x (filter r xs), here, rest)
  where
    longer : {X : Type 0} (b : Bool) (x : X) (ys : List X) → length (cond b (x ∷ ys) ys) ≡ cond b 1 0 + length ys
    longer true x ys = omega arith
    longer false x ys = omega arith

-- ---- a range whose first numbers give nothing

-- such numbers can be left out
pub flat_map_beyond : {Y : Type 0} (f : ℕ → List Y) (k a n b m : ℕ) → a + k ≡ b → m + k ≡ n
    → ((j : ℕ) → a ≤ j → j < b → f j ≡ []) → flat_map f (range_with_len a n) ≡ flat_map f (range_with_len b m)
flat_map_beyond f zero a n b m from long none =
    let here : a ≡ b = omega (arith, from) in
    let same : n ≡ m = omega (arith, long) in
    ap (λ c. flat_map f (range_with_len c n)) here ∙ ap (λ c. flat_map f (range_with_len b c)) same
flat_map_beyond f (suc k) a n b m from long none =
    let more : n ≡ suc (m + k) = omega (arith, long) in
    ap (λ c. flat_map f (range_with_len a c)) more
    ∙ ap (λ ys. ys ++ flat_map f (range_with_len (a + 1) (m + k))) (none a (omega arith) (omega (arith, from)))
    ∙ flat_map_beyond f k (a + 1) (m + k) b m (omega (arith, from)) refl (λ j after before. none j (omega (arith, after)) before)
