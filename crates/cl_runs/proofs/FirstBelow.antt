-- The first number below a bound of which something holds, where that can be decided of each number.
use Rattle.std.proofs.Common.{ℕ, zero, suc, ◌<◌, ◌≤◌, ◌⊎◌, inl, inr, subst, arith}
use Rattle.std.proofs.lemmas.Bool.{cases_eq}

pub record IsFirst (P : ℕ → Type 0) (n m : ℕ) : Type 0 where
  pub within : m < n
  pub holds : P m
  pub least : (k : ℕ) → k < n → P k → m ≤ k

-- both hold, or they don't
pub both_or_not : {A B : Type 0} → A ⊎ (A → ⊥) → B ⊎ (B → ⊥) → (A × B) ⊎ (A × B → ⊥)
both_or_not (inl a) (inl b) = inl (a, b)
both_or_not (inl a) (inr none) = inr (λ h. none h.1)
both_or_not (inr none) other = inr (λ h. none h.0)

module _ (P : ℕ → Type 0) (decided : (m : ℕ) → P m ⊎ (P m → ⊥)) where
  -- a further number of which it doesn't hold changes nothing
  first_further : (n m : ℕ) → IsFirst P n m → IsFirst P (suc n) m
  first_further n m first = record {
    within = omega (arith, first.within);
    holds = first.holds;
    least = λ k h holds. elim (cases_eq k n) [
      | inl last ↦ omega (arith, first.within, last)
      | inr other ↦ first.least k (omega arith) holds
    ];
  }

  first_last : (n : ℕ) → ((m : ℕ) → m < n → P m → ⊥) → P n → IsFirst P (suc n) n
  first_last n none holds = record {
    within = omega arith;
    holds = holds;
    least = λ k h here. elim (cases_eq k n) [
      | inl last ↦ omega (arith, last)
      | inr other ↦ absurd (none k (omega arith) here)
    ];
  }

  none_further : (n : ℕ) → ((m : ℕ) → m < n → P m → ⊥) → (P n → ⊥) → (m : ℕ) → m < suc n → P m → ⊥
  none_further n none not m h holds = elim (cases_eq m n) [
    | inl last ↦ not (subst P last holds)
    | inr other ↦ none m (omega arith) holds
  ]

  -- there is a first one, or none
  pub first_or_none : (n : ℕ) → ((m : ℕ) × IsFirst P n m) ⊎ ((m : ℕ) → m < n → P m → ⊥)
  first_or_none zero = inr (λ m h holds. omega arith)
  first_or_none (suc n) = elim (first_or_none n) [
    | inl found ↦ inl (found.0, first_further n found.0 found.1)
    | inr none ↦ elim (decided n) [
      | inl holds ↦ inl (n, first_last n none holds)
      | inr not ↦ inr (none_further n none not)
    ]
  ]
