-- What is found in lists, by its place.
use Rattle.std.proofs.Common.{◌≡◌, ℕ, zero, suc, ◌+◌, ◌<◌, ◌≤◌, Bool, true, false, cond, List, [], ◌∷◌, length, get_or, drop, refl, ap, ◌∙◌, arith}
use Rattle.std.specs.Prelude.{Some, None}
use Rattle.std.specs.List.{find, position, position_or_len, filter}
use Rattle.std.proofs.lemmas.List.Quantifiers.{position-Some}
use Rattle.std.proofs.lemmas.List.Sums.{fails_before_first}
use Rattle.std.proofs.lemmas.Grind.{common_steps}

-- what passes a test at a place before which nothing does
pub record FirstAt {X : Type 0} (p : X → Bool) (xs : List X) (i : ℕ) : Type 0 where
  pub within : i < length xs
  pub passes : (d : X) → p (get_or xs i d) ≡ true
  pub fails : (k : ℕ) (d : X) → k < i → p (get_or xs k d) ≡ false

pub first_at : {X : Type 0} (p : X → Bool) (xs : List X) (i : ℕ) (d : X) → position p xs ≡ Some i → FirstAt p xs i
first_at p xs i d is = record {
  within = (position-Some p xs i d is).0;
  passes = λ e. (position-Some p xs i e is).1;
  fails = λ k e. (position-Some p xs i e is).2 k;
}

-- nothing that passes
pub record NoneAt {X : Type 0} (p : X → Bool) (xs : List X) : Type 0 where
  pub fails : (k : ℕ) (d : X) → k < length xs → p (get_or xs k d) ≡ false

none_later : {X : Type 0} (p : X → Bool) (x : X) (xs : List X) → NoneAt p (x ∷ xs) → NoneAt p xs
none_later p x xs none = record { fails = λ k d lt. none.fails (suc k) d (omega (arith, lt)) }

pub none_found : {X : Type 0} (p : X → Bool) (xs : List X) → NoneAt p xs → find p xs ≡ None
none_found p [] none = refl
none_found p (x ∷ xs) none = ap (λ b. cond b (Some x) (find p xs)) (none.fails 0 x (omega arith)) ∙ none_found p xs (none_later p x xs none)

pub none_filtered : {X : Type 0} (p : X → Bool) (xs : List X) → NoneAt p xs → filter p xs ≡ []
none_filtered p [] none = refl
none_filtered p (x ∷ xs) none = ap (λ b. cond b (x ∷ filter p xs) (filter p xs)) (none.fails 0 x (omega arith)) ∙ none_filtered p xs (none_later p x xs none)

pub none_at : {X : Type 0} (p : X → Bool) (xs : List X) → position p xs ≡ None → NoneAt p xs
none_at p xs is =
    let past : length xs ≤ position_or_len p xs = grind (arith, common_steps) in
    record { fails = λ k d lt. fails_before_first p xs k d (omega (arith, past, lt)) }

later : {X : Type 0} (p : X → Bool) (x : X) (xs : List X) (i : ℕ) → FirstAt p (x ∷ xs) (suc i) → FirstAt p xs i
later p x xs i first = record {
  within = omega (arith, first.within);
  passes = λ d. first.passes d;
  fails = λ k d lt. first.fails (suc k) d (omega (arith, lt));
}

-- it is what is found
pub found_first : {X : Type 0} (p : X → Bool) (d : X) (xs : List X) (i : ℕ) → FirstAt p xs i → find p xs ≡ Some (get_or xs i d)
found_first p d [] i first = absurd (omega (arith, first.within))
found_first p d (x ∷ xs) zero first = ap (λ b. cond b (Some x) (find p xs)) (first.passes d)
found_first p d (x ∷ xs) (suc i) first = ap (λ b. cond b (Some x) (find p xs)) (first.fails 0 d (omega arith)) ∙ found_first p d xs i (later p x xs i first)

same_next : (i : ℕ) → suc (i + 1) ≡ suc i + 1
same_next i = omega arith

-- and the first that is filtered
pub filtered_first : {X : Type 0} (p : X → Bool) (d : X) (xs : List X) (i : ℕ) → FirstAt p xs i → filter p xs ≡ get_or xs i d ∷ filter p (drop (i + 1) xs)
filtered_first p d [] i first = absurd (omega (arith, first.within))
filtered_first p d (x ∷ xs) zero first = ap (λ b. cond b (x ∷ filter p xs) (filter p xs)) (first.passes d)
filtered_first p d (x ∷ xs) (suc i) first =
    ap (λ b. cond b (x ∷ filter p xs) (filter p xs)) (first.fails 0 d (omega arith)) ∙ filtered_first p d xs i (later p x xs i first)
    ∙ ap (λ n. get_or xs i d ∷ filter p (drop n (x ∷ xs))) (same_next i)
