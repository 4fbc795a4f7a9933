-- The first of numbered moments that lies at or past a bound, where the first of all lies before it.
use Rattle.std.proofs.Common.{ℕ, zero, suc, ◌<◌, ◌≤◌, inl, inr, arith}
use Rattle.std.proofs.lemmas.Bool.{cases_lt}

-- of two numbers that follow each other, the moment of the one lies before a bound, and that of the other doesn't
pub record PassesAt (At : (number moment : ℕ) → Type 0) (bound last : ℕ) : Type 0 where
  pub number : ℕ
  pub before : ℕ
  pub after : ℕ
  pub within : suc number ≤ last
  pub at_before : At number before
  pub at_after : At (suc number) after
  pub is_before : before < bound
  pub is_after : bound ≤ after

-- there are such numbers up to one whose moment isn't before the bound
pub passes_at : (At : (number moment : ℕ) → Type 0) (bound : ℕ) → ((moment : ℕ) → At 0 moment → moment < bound)
    → (last : ℕ) → ((number : ℕ) → number ≤ last → (moment : ℕ) × At number moment)
    → (moment : ℕ) → At last moment → bound ≤ moment → PassesAt At bound last
passes_at At bound first zero each moment at late = absurd (omega (arith, first moment at, late))
passes_at At bound first (suc last) each moment at late =
    let earlier = each last (omega arith) in
    elim (cases_lt earlier.0 bound) [
      | inl is_before ↦ record {
        number = last;
        before = earlier.0;
        after = moment;
        within = omega arith;
        at_before = earlier.1;
        at_after = at;
        is_before = is_before;
        is_after = late;
      }
      | inr is_late ↦
          let found = passes_at At bound first last (λ number h. each number (omega (arith, h))) earlier.0 earlier.1 is_late in
          record {
            number = found.number;
            before = found.before;
            after = found.after;
            within = omega (arith, found.within);
            at_before = found.at_before;
            at_after = found.at_after;
            is_before = found.is_before;
            is_after = found.is_after;
          }
    ]
