-- How many arrivals lie in the first ticks, where each lies above the one before it.
use Rattle.std.proofs.Common.{◌≡◌, ℕ, zero, suc, ◌+◌, ◌-◌, ◌<◌, ◌≤◌, inl, inr, Bool, true, false, cond, nat_lt, refl, sym, ap, ◌∙◌, subst, arith}
use Rattle.std.specs.Prelude.{count_by}
use Rattle.std.specs.List.{range_with_len}
use Rattle.std.proofs.lemmas.Bool.{cases_lt, lt-ltb, le-ltb}
use Rattle.std.proofs.lemmas.List.Sums.{sum_by-cons}
use Rattle.cl_gen.specs.Arrivals.{arrivals_below}

-- a count over numbers in a row, of which the first ones pass and the others don't
none_pass : (p : ℕ → Bool) (m a : ℕ) → ((k : ℕ) → a ≤ k → p k ≡ false) → count_by p (range_with_len a m) ≡ 0
none_pass p zero a none = refl
none_pass p (suc m) a none =
    sum_by-cons (λ k. cond (p k) 1 0) a (range_with_len (a + 1) m)
    ∙ ap (λ b. cond b 1 0 + count_by p (range_with_len (a + 1) m)) (none a (omega arith))
    ∙ omega (arith, none_pass p m (a + 1) (λ k h. none k (omega arith)))

first_pass : (p : ℕ → Bool) (m a n : ℕ) → n ≤ m → ((k : ℕ) → a ≤ k → k < a + n → p k ≡ true) → ((k : ℕ) → a + n ≤ k → p k ≡ false)
    → count_by p (range_with_len a m) ≡ n
first_pass p m a zero le pass none = none_pass p m a (λ k h. none k (omega arith))
first_pass p zero a (suc n) le pass none = absurd (omega arith)
first_pass p (suc m) a (suc n) le pass none =
    sum_by-cons (λ k. cond (p k) 1 0) a (range_with_len (a + 1) m)
    ∙ ap (λ b. cond b 1 0 + count_by p (range_with_len (a + 1) m)) (pass a (omega arith) (omega arith))
    ∙ omega (
      arith,
      first_pass p m (a + 1) n (omega arith) (λ k from below. pass k (omega arith) (omega arith)) (λ k from. none k (omega arith)),
    )

module _ (f : ℕ → ℕ) (rises : (k : ℕ) → f k < f (suc k)) where
  -- each lies above all those before it, and at its number or above
  pub above : (k d : ℕ) → f k ≤ f (k + d)
  above k zero = let same : k ≡ k + 0 = omega arith in omega (arith, ap f same)
  above k (suc d) =
      let next : suc (k + d) ≡ k + suc d = omega arith in omega (arith, above k d, rises (k + d), ap f next)

  pub above_from : (k l : ℕ) → k ≤ l → f k ≤ f l
  above_from k l le = let reach : k + (l - k) ≡ l = omega arith in omega (arith, above k (l - k), ap f reach)

  pub number_below : (k : ℕ) → k ≤ f k
  number_below zero = omega arith
  number_below (suc k) = omega (arith, number_below k, rises k)

  -- those before the first that isn't below the end are all that are
  pub below_is : (ticks n : ℕ) → ((k : ℕ) → k < n → f k < ticks) → ticks ≤ f n → arrivals_below f ticks ≡ n
  unfolding arrivals_below
  below_is ticks n below end = first_pass (λ k. nat_lt (f k) ticks) ticks 0 n (few n below)
      (λ k from lt. lt-ltb (f k) ticks (below k (omega arith)))
      (λ k from. le-ltb (f k) ticks (omega (arith, above_from n k (omega arith), end)))
    where
      few : (m : ℕ) → ((k : ℕ) → k < m → f k < ticks) → m ≤ ticks
      few zero lt = omega arith
      few (suc m) lt = omega (arith, number_below m, lt m (omega arith))

  -- there is a first that isn't below the end
  record IsFirstEnd (ticks n : ℕ) : Type 0 where
    below : (k : ℕ) → k < n → f k < ticks
    end : ticks ≤ f n

  search_end : (ticks left k : ℕ) → ticks ≤ left + k → ((j : ℕ) → j < k → f j < ticks) → (n : ℕ) × IsFirstEnd ticks n
  search_end ticks zero k enough below = (k, record { below = below; end = omega (arith, number_below k) })
  search_end ticks (suc left) k enough below = elim (cases_lt (f k) ticks) [
    | inl lt ↦ search_end ticks left (suc k) (omega arith) (λ j within. further j within lt)
    | inr end ↦ (k, record { below = below; end = end })
  ]
    where
      further : (j : ℕ) → j < suc k → f k < ticks → f j < ticks
      further j within lt = elim (cases_lt j k) [
        | inl less ↦ below j less
        | inr not ↦ let same : j ≡ k = omega arith in omega (arith, lt, ap f same)
      ]

  count_is_first : (ticks : ℕ) → IsFirstEnd ticks (arrivals_below f ticks)
  count_is_first ticks =
      let found = search_end ticks ticks 0 (omega arith) (λ j within. absurd (omega arith)) in
      subst (λ n. IsFirstEnd ticks n) (sym (below_is ticks found.0 found.1.below found.1.end)) found.1

  pub all_below : (ticks k : ℕ) → k < arrivals_below f ticks → f k < ticks
  all_below ticks k within = (count_is_first ticks).below k within

  pub end_reached : (ticks : ℕ) → ticks ≤ f (arrivals_below f ticks)
  end_reached ticks = (count_is_first ticks).end
