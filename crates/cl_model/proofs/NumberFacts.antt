-- The numbers of tasks where one of them is taken out.
use Rattle.std.proofs.Common.{◌≡◌, ℕ, ◌+◌, ◌-◌, ◌<◌, ◌≤◌, cond, ◌⊎◌, inl, inr, sym, ap, ◌∙◌, arith, nat_lt}
use Rattle.std.specs.Prelude.{◌==◌}
use Rattle.std.proofs.lemmas.Bool.{cases_lt, lt-ltb, ltb-true, false_from_ne_true, eqb-true, eq-eqb}
use Rattle.cl_model.specs.TaskNumbers.{number_without}
use Rattle.cl_model.proofs.ListFacts.{same_tests}

-- those in front keep their numbers
pub kept_number : (t i : ℕ) → i ≤ t → number_without t i ≡ i
kept_number t i le = ap (λ b. cond b (i - 1) i) (false_from_ne_true (nat_lt t i) (λ behind. omega (arith, le, ltb-true t i behind)))

-- those behind move up
pub moved_number : (t i : ℕ) → t ≤ i → number_without t (i + 1) ≡ i
moved_number t i le =
    let behind : t < i + 1 = omega (arith, le) in
    let up : (i + 1) - 1 ≡ i = omega arith in
    ap (λ b. cond b ((i + 1) - 1) (i + 1)) (lt-ltb t (i + 1) behind) ∙ up

-- either way
number_is : (t i : ℕ) → (i ≡ t → ⊥) → ((t < i) × (number_without t i + 1 ≡ i)) ⊎ ((i < t) × (number_without t i ≡ i))
number_is t i other =
    elim (cases_lt t i) [
      | inl behind ↦
          let before : t ≤ i - 1 = omega (arith, behind) in
          let up : (i - 1) + 1 ≡ i = omega (arith, behind) in
          inl (behind, ap (λ k. number_without t k + 1) (sym up) ∙ ap (λ k. k + 1) (moved_number t (i - 1) before) ∙ up)
      | inr in_front ↦ inr (omega (arith, in_front, other), kept_number t i in_front)
    ]

-- no two of the others get one number
one_number : (t i j : ℕ) → (i ≡ t → ⊥) → (j ≡ t → ⊥) → number_without t i ≡ number_without t j → i ≡ j
one_number t i j i_other j_other same =
    elim (number_is t i i_other) [
      | inl i_is ↦ elim (number_is t j j_other) [
        | inl j_is ↦ omega (arith, i_is.1, j_is.1, same)
        | inr j_is ↦ omega (arith, i_is.0, i_is.1, j_is.0, j_is.1, same)
      ]
      | inr i_is ↦ elim (number_is t j j_other) [
        | inl j_is ↦ omega (arith, i_is.0, i_is.1, j_is.0, j_is.1, same)
        | inr j_is ↦ omega (arith, i_is.1, j_is.1, same)
      ]
    ]

pub same_numbers : (t i j : ℕ) → (i ≡ t → ⊥) → (j ≡ t → ⊥) → (number_without t i == number_without t j) ≡ (i == j)
same_numbers t i j i_other j_other =
    same_tests (number_without t i == number_without t j) (i == j)
    (λ same. eq-eqb i j (one_number t i j i_other j_other (eqb-true (number_without t i) (number_without t j) same)))
    (λ same. eq-eqb (number_without t i) (number_without t j) (ap (number_without t) (eqb-true i j same)))
