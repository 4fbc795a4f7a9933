-- Lists of checks of which none refuses, and names over numbers in a row.
use Rattle.std.proofs.Common.{◌≡◌, ℕ, zero, suc, ◌+◌, ◌-◌, ◌<◌, ◌≤◌, Bool, true, false, inl, inr, Some, List, [], ◌∷◌, ◌++◌, length, get_or, map, refl, sym, ap, ◌∙◌, arith}
use Rattle.std.specs.Cmp.Lexicographic.{bytes_decides}
use Rattle.std.specs.List.{range_with_len, filter, list_any}
use Rattle.std.specs.Option.{option_and_then}
use Rattle.std.specs.Prelude.{slice_get}
use Rattle.std.proofs.lemmas.Bool.{cases_lt, cond_both, cond-false, false_from_ne_true, or_from, or_left, or_right}
use Rattle.std.proofs.lemmas.List.FromFn.{take-map-range_with_len, get_or-map-range_with_len, length-map-range_with_len}
use Rattle.std.proofs.lemmas.List.Sums.{length-filter, count_by-le-length}
use Rattle.std.proofs.lemmas.Option.{slice_get-get_or}
use Rattle.cl_model.specs.{declared.{place.Place.Place, refusal.{Code.Code, Refusal.Refusal}}, Named.{same_name, has_name, index_of, entry_named}, NameSets.AreDistinctNames, Refusals.{when, unless, each_from, each}, ValidNames.{repeat_check, repeats}}
use Rattle.cl_model.proofs.NamePlaces.{own_place}

-- ---- checks that refuse nothing

pub not_refused : (test : Bool) (code : Code) (place : Place) → test ≡ false → when test code place ≡ []
not_refused test code place fails = ap (λ b. when b code place) fails

pub passed_by : (test : Bool) (code : Code) (place : Place) → test ≡ true → unless test code place ≡ []
passed_by test code place passes = ap (λ b. unless b code place) passes

-- of items that are mapped over numbers in a row
pub each_shifted : {X : Type 0} (check : ℕ → X → List Refusal) (f : ℕ → X) (m n a : ℕ) → ((j : ℕ) → j < m → check (n + j) (f (a + j)) ≡ [])
    → each_from n check (map f (range_with_len a m)) ≡ []
each_shifted check f zero n a none = refl
each_shifted check f (suc m) n a none =
    let here : check n (f a) ≡ [] = at n (n + 0) a (a + 0) (omega arith) (omega arith) (none 0 (omega arith)) in
    ap (λ list. list ++ each_from (n + 1) check (map f (range_with_len (a + 1) m))) here
    ∙ each_shifted check f m (n + 1) (a + 1)
    (λ j lt. at (n + 1 + j) (n + suc j) (a + 1 + j) (a + suc j) (omega arith) (omega arith) (none (suc j) (omega arith)))
  where
    at : (k l b c : ℕ) → k ≡ l → b ≡ c → check l (f c) ≡ [] → check k (f b) ≡ []
    at k l b c e g pass = ap (λ x. check x (f b)) e ∙ ap (λ x. check l (f x)) g ∙ pass

pub each_mapped : {X : Type 0} (check : ℕ → X → List Refusal) (f : ℕ → X) (n : ℕ) → ((i : ℕ) → i < n → check i (f i) ≡ [])
    → each check (map f (range_with_len 0 n)) ≡ []
each_mapped check f n none = each_shifted check f n 0 0
    (λ j lt. let same : 0 + j ≡ j = omega arith in ap (λ x. check x (f x)) same ∙ none j lt)

-- ---- names that are mapped over numbers in a row

pub not_among : (name : List ℕ) (f : ℕ → List ℕ) (m a : ℕ) → ((j : ℕ) → a ≤ j → j < a + m → name ≡ f j → ⊥)
    → has_name name (map f (range_with_len a m)) ≡ false
not_among name f zero a none = refl
not_among name f (suc m) a none =
    or_from (same_name name (f a)) (has_name name (map f (range_with_len (a + 1) m)))
    (false_from_ne_true _ (λ same. none a (omega arith) (omega arith) ((bytes_decides name (f a)).0 same)))
    (not_among name f m (a + 1) (λ j from below. none j (omega arith) (omega arith)))

pub among : (f : ℕ → List ℕ) (m a j : ℕ) → a ≤ j → j < a + m → has_name (f j) (map f (range_with_len a m)) ≡ true
among f zero a j from below = absurd (omega arith)
among f (suc m) a j from below = elim (cases_lt a j) [
  | inl later ↦ or_right (same_name (f j) (f a)) (has_name (f j) (map f (range_with_len (a + 1) m))) (among f m (a + 1) j (omega arith) (omega arith))
  | inr not ↦ let same : j ≡ a = omega arith in
      or_left (same_name (f j) (f a)) (has_name (f j) (map f (range_with_len (a + 1) m))) ((bytes_decides (f j) (f a)).1 (ap f same))
]

-- names that are apart don't repeat
abbrev pub AreApartBelow : (ℕ → List ℕ) → ℕ → Type 0
AreApartBelow f n = (i j : ℕ) → i < n → j < n → f i ≡ f j → i ≡ j

pub fresh : (f : ℕ → List ℕ) (n k : ℕ) → AreApartBelow f n → k < n → has_name (f k) (map f (range_with_len 0 k)) ≡ false
fresh f n k apart lt = not_among (f k) f k 0
    (λ j from below same. let e : k ≡ j = apart k j lt (omega arith) same in absurd (omega arith))

pub repeats_pass : (code : Code) (place : ℕ → Place) (f : ℕ → List ℕ) (n : ℕ) → AreApartBelow f n
    → repeats code place [] (map f (range_with_len 0 n)) ≡ []
repeats_pass code place f n apart = each_mapped (repeat_check code place [] (map f (range_with_len 0 n))) f n
    (λ i lt. not_refused _ code (place i) (ap (has_name (f i)) (take-map-range_with_len f 0 n i (omega arith)) ∙ fresh f n i apart lt))

pub apart_in_list : (f : ℕ → List ℕ) (n : ℕ) → AreApartBelow f n → AreDistinctNames (map f (range_with_len 0 n))
apart_in_list f n apart k within =
    let lt : k < n = omega (arith, within, length-map-range_with_len f 0 n) in
    ap (λ names. has_name (get_or (map f (range_with_len 0 n)) k []) names) (take-map-range_with_len f 0 n k (omega arith))
    ∙ ap (λ name. has_name name (map f (range_with_len 0 k))) (get_or-map-range_with_len f 0 n k k [] lt (omega arith))
    ∙ fresh f n k apart lt

-- and each finds its own entry
pub entry_is : {X : Type 0} (f : ℕ → List ℕ) (entry : ℕ → X) (n k : ℕ) → AreApartBelow f n → k < n
    → entry_named (f k) (map f (range_with_len 0 n)) (map entry (range_with_len 0 n)) ≡ Some (entry k)
entry_is f entry n k apart lt =
    let own : index_of (f k) (map f (range_with_len 0 n)) ≡ Some k
    = ap (λ name. index_of name (map f (range_with_len 0 n))) (sym (get_or-map-range_with_len f 0 n k k [] lt (omega arith)))
    ∙ own_place (map f (range_with_len 0 n)) (apart_in_list f n apart) k (omega (arith, lt, length-map-range_with_len f 0 n)) in
    ap (option_and_then (slice_get (map entry (range_with_len 0 n)))) own
    ∙ slice_get-get_or (map entry (range_with_len 0 n)) k (entry k) (omega (arith, lt, length-map-range_with_len entry 0 n))
    ∙ ap Some (get_or-map-range_with_len entry 0 n k k (entry k) lt (omega arith))

-- ---- tests of those of some items that another test lets through

pub none_of_mapped : {X : Type 0} (test sieve : X → Bool) (f : ℕ → X) (m a : ℕ)
    → ((j : ℕ) → a ≤ j → j < a + m → sieve (f j) ≡ true → test (f j) ≡ false) → list_any test (filter sieve (map f (range_with_len a m))) ≡ false
none_of_mapped test sieve f zero a none = refl
none_of_mapped test sieve f (suc m) a none =
    let rest = filter sieve (map f (range_with_len (a + 1) m)) in
    let none_left : list_any test rest ≡ false = none_of_mapped test sieve f m (a + 1) (λ j from below. none j (omega arith) (omega arith)) in
    cond_both (sieve (f a)) (f a ∷ rest) rest (λ list. list_any test list ≡ false)
    (λ through. or_from (test (f a)) (list_any test rest) (none a (omega arith) (omega arith) through) none_left)
    (λ out. none_left)

-- at most so many are let through, where those below a number aren't
pub few_let_through : {X : Type 0} (sieve : X → Bool) (f : ℕ → X) (m a b : ℕ) → a ≤ b → ((j : ℕ) → j < b → sieve (f j) ≡ false)
    → length (filter sieve (map f (range_with_len a m))) ≤ a + m - b
few_let_through sieve f zero a b le out = omega arith
few_let_through sieve f (suc m) a b le out = elim (cases_lt a b) [
  | inl below ↦
      let rest = filter sieve (map f (range_with_len (a + 1) m)) in
      let same : filter sieve (map f (range_with_len a (suc m))) ≡ rest = cond-false (sieve (f a)) (f a ∷ rest) rest (out a below) in
      omega (arith, ap length same, few_let_through sieve f m (a + 1) b (omega arith) out)
  | inr not ↦ omega (
    arith,
    length-filter sieve (map f (range_with_len a (suc m))),
    count_by-le-length sieve (map f (range_with_len a (suc m))),
    length-map-range_with_len f a (suc m),
  )
]
