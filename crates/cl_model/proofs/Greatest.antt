-- The greatest of a list by a number of each element: none is greater, and it is within each bound on all of them.
use Rattle.std.proofs.Common.{◌≡◌, ℕ, zero, suc, ◌+◌, ◌<◌, ◌≤◌, Bool, true, false, cond, max, List, [], ◌∷◌, length, get_or, take, map, refl, ap, ◌∙◌, arith}
use Rattle.std.specs.Prelude.{fold, filter, All}
use Rattle.std.proofs.lemmas.Bool.{cond-true}
use Rattle.std.proofs.lemmas.List.Elements.{All-head, All-tail, filter_more}
use Rattle.std.proofs.lemmas.List.Folds.{fold-map}
use Rattle.std.proofs.lemmas.List.Sums.{fold-append}
use Rattle.cl_model.specs.Holds.{greatest_by}

module _ {X : Type 0} (f : X → ℕ) where
  -- from a number on
  abbrev greatest_from : ℕ → List X → ℕ
  greatest_from a xs = fold (λ greatest x. max greatest (f x)) a xs

  from_rises : (a : ℕ) (xs : List X) → a ≤ greatest_from a xs
  from_rises a [] = omega arith
  from_rises a (x ∷ xs) = omega (arith, from_rises (max a (f x)) xs)

  from_least : (a : ℕ) (xs : List X) (n : ℕ) (d : X) → n < length xs → f (get_or xs n d) ≤ greatest_from a xs
  from_least a [] n d h = absurd (omega (arith, h))
  from_least a (x ∷ xs) zero d h = omega (arith, from_rises (max a (f x)) xs)
  from_least a (x ∷ xs) (suc n) d h = from_least (max a (f x)) xs n d (omega arith)

  from_within : (a : ℕ) (xs : List X) (most : ℕ) → a ≤ most → All (λ x. f x ≤ most) xs → greatest_from a xs ≤ most
  from_within a [] most start within = start
  from_within a (x ∷ xs) most start within = from_within (max a (f x)) xs most
      (omega (arith, start, All-head (λ y. f y ≤ most) x xs within)) (All-tail (λ y. f y ≤ most) x xs within)

  -- none is greater
  pub greatest_least : (xs : List X) (n : ℕ) (d : X) → n < length xs → f (get_or xs n d) ≤ greatest_by f xs
  greatest_least = from_least 0

  -- it is within each bound
  pub greatest_within : (xs : List X) (most : ℕ) → All (λ x. f x ≤ most) xs → greatest_by f xs ≤ most
  greatest_within xs most within = from_within 0 xs most (omega arith) within

  from_filtered : (p : X → Bool) (a : ℕ) (xs : List X) (n : ℕ) (d : X) → n < length xs → p (get_or xs n d) ≡ true
      → f (get_or xs n d) ≤ greatest_from a (filter p xs)
  from_filtered p a [] n d h passes = absurd (omega (arith, h))
  from_filtered p a (x ∷ xs) zero d h passes =
      elim (p x) as (λ b. b ≡ true → f x ≤ greatest_from a (cond b (x ∷ filter p xs) (filter p xs))) [
        | true ↦ λ _. omega (arith, from_rises (max a (f x)) (filter p xs))
        | false ↦ λ same. cc
      ] passes
  from_filtered p a (x ∷ xs) (suc n) d h passes =
      elim (p x) as (λ b. f (get_or xs n d) ≤ greatest_from a (cond b (x ∷ filter p xs) (filter p xs))) [
        | true ↦ from_filtered p (max a (f x)) xs n d (omega arith) passes
        | false ↦ from_filtered p a xs n d (omega arith) passes
      ]

  -- none that passes a test is greater than the greatest of those that do
  pub greatest_filtered : (p : X → Bool) (xs : List X) (n : ℕ) (d : X) → n < length xs → p (get_or xs n d) ≡ true
      → f (get_or xs n d) ≤ greatest_by f (filter p xs)
  greatest_filtered p = from_filtered p 0

  from_more : (p q : X → Bool) → ((x : X) → p x ≡ true → q x ≡ true) → (a b : ℕ) → a ≤ b → (xs : List X)
      → greatest_from a (filter p xs) ≤ greatest_from b (filter q xs)
  from_more p q more a b start [] = start
  from_more p q more a b start (x ∷ xs) =
      elim (p x) as (λ c. (c ≡ true → q x ≡ true) → greatest_from a (cond c (x ∷ filter p xs) (filter p xs)) ≤ greatest_from b (cond (q x) (x ∷ filter q xs) (filter q xs))) [
        | true ↦ λ also. omega (
          arith,
          from_more p q more (max a (f x)) (max b (f x)) (omega (arith, start)) xs,
          ap (greatest_from b) (cond-true (q x) (x ∷ filter q xs) (filter q xs) (also refl)),
        )
        | false ↦ λ also. elim (q x) as (λ c. greatest_from a (filter p xs) ≤ greatest_from b (cond c (x ∷ filter q xs) (filter q xs))) [
          | true ↦ from_more p q more a (max b (f x)) (omega (arith, start)) xs
          | false ↦ from_more p q more a b start xs
        ]
      ] (more x)

  -- where more pass, the greatest is no less
  pub greatest_of_more : (p q : X → Bool) → ((x : X) → p x ≡ true → q x ≡ true) → (xs : List X)
      → greatest_by f (filter p xs) ≤ greatest_by f (filter q xs)
  greatest_of_more p q more = from_more p q more 0 0 (omega arith)

from_one : {X : Type 0} (f : X → ℕ) (b : Bool) (a : ℕ) (x : X) → greatest_from f a (cond b (x ∷ []) []) ≡ max a (cond b (f x) 0)
from_one f true a x = refl
from_one f false a x = omega arith

-- the greatest of those that pass, with one more element
pub greatest_more : {X : Type 0} (f : X → ℕ) (p : X → Bool) (xs : List X) (i : ℕ) (d : X) → i < length xs
    → greatest_by f (filter p (take (i + 1) xs)) ≡ max (greatest_by f (filter p (take i xs))) (cond (p (get_or xs i d)) (f (get_or xs i d)) 0)
greatest_more f p xs i d h =
    ap (greatest_by f) (filter_more p xs i d h)
    ∙ fold-append (λ (greatest : ℕ) y. max greatest (f y)) 0 (filter p (take i xs)) (cond (p (get_or xs i d)) (get_or xs i d ∷ []) [])
    ∙ from_one f (p (get_or xs i d)) (greatest_by f (filter p (take i xs))) (get_or xs i d)

-- two numbers that agree on each element have one greatest
from_agrees : {X : Type 0} (f g : X → ℕ) → ((x : X) → f x ≡ g x) → (a : ℕ) (xs : List X) → greatest_from f a xs ≡ greatest_from g a xs
from_agrees f g same a [] = refl
from_agrees f g same a (x ∷ xs) = ap (λ n. greatest_from f (max a n) xs) (same x) ∙ from_agrees f g same (max a (g x)) xs

pub greatest_agrees : {X : Type 0} (f g : X → ℕ) → ((x : X) → f x ≡ g x) → (xs : List X) → greatest_by f xs ≡ greatest_by g xs
greatest_agrees f g same xs = from_agrees f g same 0 xs

-- the greatest of what is mapped
pub greatest_mapped : {X Y : Type 0} (f : Y → ℕ) (g : X → Y) (xs : List X) → greatest_by f (map g xs) ≡ greatest_by (λ x. f (g x)) xs
greatest_mapped f g xs = fold-map (λ (greatest : ℕ) y. max greatest (f y)) g 0 xs
