-- The priorities that an order gives: those of the tasks after a task are higher, and those of the tasks before it
-- lower.
use Rattle.std.proofs.Common.{◌≡◌, ℕ, suc, ◌+◌, ◌<◌, ◌≤◌, inl, inr, Bool, true, false, not, ◌||◌, nat_lt, Some, None, List, [], ◌∷◌, ◌++◌, length, refl, sym, ap, ◌∙◌, arith}
use Rattle.std.specs.Prelude.{◌==◌, unwrap_or}
use Rattle.std.specs.List.{prefix_len}
use Rattle.std.proofs.lemmas.Bool.{true≢false, false≢true, eqb-true, or_parts, lt-ltb, cond-true, cond-false, not_from_true, not_from_false, false_from_ne_true, or_left, or_right}
use Rattle.cl_tune.specs.{Orders.priority_in, Inner.Filling.AreDistinct}
use Rattle.cl_tune.proofs.Members.{has, has_itself, has_head, has_more, has_cases, has_append}

-- the place of a number in a list, or the list's length
abbrev spot : (x : ℕ) → List ℕ → ℕ
spot x xs = prefix_len (λ y. not (y == x)) xs

spot_here : (x y : ℕ) (ys : List ℕ) → (y == x) ≡ true → spot x (y ∷ ys) ≡ 0
spot_here x y ys e = cond-false {A = ℕ} (not (y == x)) (1 + spot x ys) 0 (not_from_true (y == x) e)

spot_later : (x y : ℕ) (ys : List ℕ) → (y == x) ≡ false → spot x (y ∷ ys) ≡ 1 + spot x ys
spot_later x y ys e = cond-true {A = ℕ} (not (y == x)) (1 + spot x ys) 0 (not_from_false (y == x) e)

spot_within : (x : ℕ) (xs : List ℕ) → has x xs ≡ true → spot x xs < length xs
spot_within x [] is = absurd (false≢true is)
spot_within x (y ∷ ys) is = go (y == x) refl (spot_within x ys)
  where
    go : (b : Bool) → (y == x) ≡ b → (has x ys ≡ true → spot x ys < length ys) → spot x (y ∷ ys) < suc (length ys)
    go true e again = omega (arith, spot_here x y ys e)
    go false e again = omega (arith, spot_later x y ys e, again (sym (ap (λ b. b || has x ys) e) ∙ is))

spot_in_front : (x : ℕ) (front rest : List ℕ) → has x front ≡ true → spot x (front ++ rest) < length front
spot_in_front x [] rest is = absurd (false≢true is)
spot_in_front x (y ∷ ys) rest is = go (y == x) refl (spot_in_front x ys rest)
  where
    go : (b : Bool) → (y == x) ≡ b → (has x ys ≡ true → spot x (ys ++ rest) < length ys) → spot x (y ∷ (ys ++ rest)) < suc (length ys)
    go true e again = omega (arith, spot_here x y (ys ++ rest) e)
    go false e again = omega (arith, spot_later x y (ys ++ rest) e, again (sym (ap (λ b. b || has x ys) e) ∙ is))

spot_behind : (x : ℕ) (front rest : List ℕ) → has x front ≡ false → spot x (front ++ rest) ≡ length front + spot x rest
spot_behind x [] rest absent = omega arith
spot_behind x (y ∷ ys) rest absent =
    let parts = or_parts (y == x) (has x ys) absent in
    omega (arith, spot_later x y (ys ++ rest) parts.0, spot_behind x ys rest parts.1)

priority_is : (order : List ℕ) (x : ℕ) → has x order ≡ true → priority_in order x ≡ spot x order + 1
priority_is order x is =
    ap (λ place. unwrap_or place 0 + 1) (cond-true (nat_lt (spot x order) (length order)) (Some (spot x order)) None
    (lt-ltb (spot x order) (length order) (spot_within x order is)))

-- it is at most the number of tasks
pub priority_few : (order : List ℕ) (x : ℕ) → has x order ≡ true → priority_in order x ≤ length order
priority_few order x is = omega (arith, priority_is order x is, spot_within x order is)

spots_apart : (x y : ℕ) (xs : List ℕ) → has x xs ≡ true → has y xs ≡ true → spot x xs ≡ spot y xs → x ≡ y
spots_apart x y [] is is_too same = absurd (false≢true is)
spots_apart x y (z ∷ zs) is is_too same = go (z == x) (z == y) refl refl (spots_apart x y zs)
  where
    go : (a b : Bool) → (z == x) ≡ a → (z == y) ≡ b → (has x zs ≡ true → has y zs ≡ true → spot x zs ≡ spot y zs → x ≡ y) → x ≡ y
    go true true e f again = sym (eqb-true z x e) ∙ eqb-true z y f
    go true false e f again = absurd (omega (arith, same, spot_here x z zs e, spot_later y z zs f))
    go false true e f again = absurd (omega (arith, same, spot_later x z zs e, spot_here y z zs f))
    go false false e f again = again
        (sym (ap (λ b. b || has x zs) e) ∙ is)
        (sym (ap (λ b. b || has y zs) f) ∙ is_too)
        (omega (arith, same, spot_later x z zs e, spot_later y z zs f))

-- an order gives two tasks different priorities
pub priorities_apart : (order : List ℕ) (x y : ℕ) → has x order ≡ true → has y order ≡ true → priority_in order x ≡ priority_in order y → x ≡ y
priorities_apart order x y is is_too same = spots_apart x y order is is_too (omega (arith, same, priority_is order x is, priority_is order y is_too))

-- what stands in the front of a list that has each number once doesn't stand in its rest
pub apart : (front rest : List ℕ) (x : ℕ) → AreDistinct (front ++ rest) → has x front ≡ true → has x rest ≡ false
apart [] rest x once is = absurd (false≢true is)
apart (y ∷ ys) rest x once is = elim (has_cases x y ys is) [
  | inl same ↦ (or_parts (has x ys) (has x rest) (sym (has_append x ys rest) ∙ ap (λ n. has n (ys ++ rest)) (sym same) ∙ once.0)).1
  | inr later ↦ apart ys rest x once.1 later
]

module _ (front : List ℕ) (task : ℕ) (rest : List ℕ) (once : AreDistinct (front ++ task ∷ rest)) where
  absent_in_front : (x : ℕ) → has x (task ∷ rest) ≡ true → has x front ≡ false
  absent_in_front x is = false_from_ne_true (has x front) (λ there. true≢false (sym is ∙ apart front (task ∷ rest) x once there))

  in_order : (x : ℕ) → has x (task ∷ rest) ≡ true → has x (front ++ task ∷ rest) ≡ true
  in_order x is = has_append x front (task ∷ rest) ∙ or_right (has x front) (has x (task ∷ rest)) is

  own_priority : priority_in (front ++ task ∷ rest) task ≡ length front + 1
  own_priority = omega (
    arith,
    priority_is (front ++ task ∷ rest) task (in_order task (has_head task rest)),
    spot_behind task front (task ∷ rest) (absent_in_front task (has_head task rest)),
    spot_here task task rest (has_itself task),
  )

  absent_in_rest : has task rest ≡ false
  absent_in_rest = go front once
    where
      go : (xs : List ℕ) → AreDistinct (xs ++ task ∷ rest) → has task rest ≡ false
      go [] once = once.0
      go (y ∷ ys) once = go ys once.1

  -- those after it have higher priorities
  pub later_is_higher : (x : ℕ) → has x rest ≡ true → priority_in (front ++ task ∷ rest) task < priority_in (front ++ task ∷ rest) x
  later_is_higher x is =
      let there = has_more x task rest is in
      let other : (task == x) ≡ false = false_from_ne_true (task == x) (λ e. true≢false (sym is ∙ ap (λ n. has n rest) (sym (eqb-true task x e)) ∙ absent_in_rest)) in
      omega (
        arith,
        own_priority,
        priority_is (front ++ task ∷ rest) x (in_order x there),
        spot_behind x front (task ∷ rest) (absent_in_front x there),
        spot_later x task rest other,
      )

  -- and those before it lower ones
  pub earlier_is_lower : (x : ℕ) → has x front ≡ true → priority_in (front ++ task ∷ rest) x < priority_in (front ++ task ∷ rest) task
  earlier_is_lower x is = omega (
    arith,
    own_priority,
    priority_is (front ++ task ∷ rest) x (has_append x front (task ∷ rest) ∙ or_left (has x front) (has x (task ∷ rest)) is),
    spot_in_front x front (task ∷ rest) is,
  )
