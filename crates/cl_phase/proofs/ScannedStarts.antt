-- Where walks start: the arrivals of a phase from 0 on, one after the other. Times are in ticks.
use Rattle.std.proofs.Common.{◌≡◌, ℕ, zero, suc, ◌+◌, ◌<◌, ◌≤◌, Bool, true, false, cond, ℤ, pos, ◌+ℤ◌, ◌≤ℤ◌, [], ◌∷◌, ◌++◌, filter, refl, ap, sym, ◌∙◌, arith, append-nil}
use Rattle.std.specs.List.{range_with_len}
use Rattle.std.proofs.lemmas.Int.{ints}
use Rattle.std.proofs.lemmas.List.{map-id}
use Rattle.std.proofs.lemmas.List.FromFn.{map-range_with_len_more}
use Rattle.std.proofs.lemmas.List.Elements.{filter-append}
use Rattle.cl_stim.specs.{declared.phase.Phase.Phase, Phase.{IsPhase, first_arrival, arrives_at}}
use Rattle.cl_stim.proofs.{PhaseSteps.first_before, ArrivalTests.arrives_from_test}
use Rattle.cl_phase.specs.{declared.pace.Pace.TheVariants.Kept, TightBounds.starts}

module _ (phase : Phase) (is : IsPhase phase) where
  -- none arrives between a moment and the first arrival from it on
  pub none_before_first : (from moment : ℤ) → from ≤ℤ moment → (moment +ℤ pos 1) ≤ℤ first_arrival phase from → arrives_at phase moment ≡ false
  none_before_first from moment after before = by (arrives_at phase moment) refl
    where
      apart : (moment first : ℤ) → (moment +ℤ pos 1) ≤ℤ first → first ≤ℤ moment → ⊥
      apart moment first h k = omega (arith, ints, h, k)

      by : (found : Bool) → arrives_at phase moment ≡ found → arrives_at phase moment ≡ false
      by true found = absurd (apart moment (first_arrival phase from) before (first_before phase is from moment (arrives_from_test phase is moment found) after))
      by false none = none

-- one moment more
range_more : (n : ℕ) → range_with_len 0 (n + 1) ≡ range_with_len 0 n ++ n ∷ []
range_more n = sym (map-id (range_with_len 0 (n + 1))) ∙ map-range_with_len_more (λ k. k) 0 n n (omega arith) ∙ ap (λ xs. xs ++ n ∷ []) (map-id (range_with_len 0 n))

filter_one : (test : ℕ → Bool) (n : ℕ) → filter test (n ∷ []) ≡ cond (test n) (n ∷ []) []
filter_one test n = refl

module _ (phase : Phase) where
  starts_more : (n : ℕ) → starts (Kept phase) (n + 1) ≡ starts (Kept phase) n ++ cond (arrives_at phase (pos n)) (n ∷ []) []
  starts_more n =
      let test : ℕ → Bool = λ m. arrives_at phase (pos m) in
      ap (filter test) (range_more n) ∙ filter-append test (range_with_len 0 n) (n ∷ []) ∙ ap (λ xs. filter test (range_with_len 0 n) ++ xs) (filter_one test n)

  pub starts_at : (n : ℕ) → arrives_at phase (pos n) ≡ true → starts (Kept phase) (n + 1) ≡ starts (Kept phase) n ++ n ∷ []
  starts_at n found = starts_more n ∙ ap (λ b. starts (Kept phase) n ++ cond b (n ∷ []) []) found

  starts_not_at : (n : ℕ) → arrives_at phase (pos n) ≡ false → starts (Kept phase) (n + 1) ≡ starts (Kept phase) n
  starts_not_at n none = starts_more n ∙ ap (λ b. starts (Kept phase) n ++ cond b (n ∷ []) []) none ∙ append-nil (starts (Kept phase) n)

  -- over moments at which none arrives
  pub starts_over : (n more : ℕ) → ((m : ℕ) → n ≤ m → m < n + more → arrives_at phase (pos m) ≡ false) → starts (Kept phase) (n + more) ≡ starts (Kept phase) n
  starts_over n zero none = ap (starts (Kept phase)) (omega arith)
  starts_over n (suc more) none =
      let next : n + suc more ≡ n + more + 1 = omega arith in
      ap (starts (Kept phase)) next ∙ starts_not_at (n + more) (none (n + more) (omega arith) (omega arith))
      ∙ starts_over n more (λ m after before. none m after (omega (arith, before)))
