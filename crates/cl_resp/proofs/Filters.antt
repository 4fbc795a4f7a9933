-- Lists that are filtered and mapped.
use Rattle.std.proofs.Common.{◌≡◌, ℕ, zero, suc, ◌<◌, ◌≤◌, Bool, true, false, cond, ◌&&◌, List, [], ◌∷◌, length, get_or, map, refl, ap, ◌∙◌, arith}
use Rattle.std.specs.List.{filter, range_with_len}
use Rattle.std.proofs.lemmas.Bool.{false≢true}
use Rattle.std.proofs.lemmas.List.{same_lists, get_or_default}
use Rattle.std.proofs.lemmas.List.FromFn.{length-map-range_with_len, get_or-map-range_with_len}
use Rattle.std.proofs.lemmas.List.Sums.{length-filter, count_by-le-length}

-- a list is that of its items by number
pub by_number : {X : Type 0} (xs : List X) (d : X) → map (λ i. get_or xs i d) (range_with_len 0 (length xs)) ≡ xs
by_number xs d =
    same_lists (map (λ i. get_or xs i d) (range_with_len 0 (length xs))) xs (length-map-range_with_len (λ i. get_or xs i d) 0 (length xs))
    (λ k e lt.
    let within : k < length xs = omega (arith, lt, length-map-range_with_len (λ i. get_or xs i d) 0 (length xs)) in
    get_or-map-range_with_len (λ i. get_or xs i d) 0 (length xs) k k e within (omega arith) ∙ get_or_default xs k d e within)

-- to filter what is mapped
pub filter-map : {X Y : Type 0} (p : Y → Bool) (f : X → Y) (xs : List X) → filter p (map f xs) ≡ map f (filter (λ x. p (f x)) xs)
filter-map p f [] = refl
filter-map p f (x ∷ xs) =
    let rest = filter-map p f xs in
    elim (p (f x)) as (λ b. cond b (f x ∷ filter p (map f xs)) (filter p (map f xs)) ≡ map f (cond b (x ∷ filter (λ y. p (f y)) xs) (filter (λ y. p (f y)) xs))) [
      | true ↦ ap (λ ys. f x ∷ ys) rest
      | false ↦ rest
    ]

-- to filter by two tests, one after the other
pub filter-both : {X : Type 0} (p q : X → Bool) (xs : List X) → filter (λ x. p x && q x) xs ≡ filter q (filter p xs)
filter-both p q [] = refl
filter-both p q (x ∷ xs) =
    let rest = filter-both p q xs in
    elim (p x) as (λ b. cond (b && q x) (x ∷ filter (λ y. p y && q y) xs) (filter (λ y. p y && q y) xs) ≡ filter q (cond b (x ∷ filter p xs) (filter p xs))) [
      | true ↦ elim (q x) as (λ b. cond b (x ∷ filter (λ y. p y && q y) xs) (filter (λ y. p y && q y) xs) ≡ cond b (x ∷ filter q (filter p xs)) (filter q (filter p xs))) [
        | true ↦ ap (λ ys. x ∷ ys) rest
        | false ↦ rest
      ]
      | false ↦ rest
    ]

pub shorter : {X : Type 0} (p : X → Bool) (xs : List X) → length (filter p xs) ≤ length xs
shorter p xs = omega (arith, length-filter p xs, count_by-le-length p xs)

-- of what passes one test, fewer pass another that one of them fails
pub fewer : {X : Type 0} (p q : X → Bool) (xs : List X) (n : ℕ) (d : X) → n < length xs → p (get_or xs n d) ≡ true → q (get_or xs n d) ≡ false
    → length (filter q (filter p xs)) < length (filter p xs)
fewer p q [] n d lt passes fails = absurd (omega (arith, lt))
fewer p q (x ∷ xs) zero d lt passes fails =
    let short = shorter q (filter p xs) in
    elim (p x) as (λ b. b ≡ true → length (filter q (cond b (x ∷ filter p xs) (filter p xs))) < length (cond b (x ∷ filter p xs) (filter p xs))) [
      | true ↦ λ e. elim (q x) as (λ b. b ≡ false → length (cond b (x ∷ filter q (filter p xs)) (filter q (filter p xs))) < suc (length (filter p xs))) [
        | true ↦ λ e. cc
        | false ↦ λ e. omega (arith, short)
      ] fails
      | false ↦ λ e. absurd (false≢true e)
    ] passes
fewer p q (x ∷ xs) (suc n) d lt passes fails =
    let rest = fewer p q xs n d (omega (arith, lt)) passes fails in
    elim (p x) as (λ b. length (filter q (cond b (x ∷ filter p xs) (filter p xs))) < length (cond b (x ∷ filter p xs) (filter p xs))) [
      | true ↦ elim (q x) as (λ b. length (cond b (x ∷ filter q (filter p xs)) (filter q (filter p xs))) < suc (length (filter p xs))) [
        | true ↦ omega (arith, rest)
        | false ↦ omega (arith, rest)
      ]
      | false ↦ rest
    ]

-- two tests that agree let the same pass
pub same_pass : {X : Type 0} (p q : X → Bool) → ((x : X) → p x ≡ q x) → (xs : List X) → filter p xs ≡ filter q xs
same_pass p q same [] = refl
same_pass p q same (x ∷ xs) =
    ap (λ b. cond b (x ∷ filter p xs) (filter p xs)) (same x)
    ∙ ap (λ ys. cond (q x) (x ∷ ys) ys) (same_pass p q same xs)
