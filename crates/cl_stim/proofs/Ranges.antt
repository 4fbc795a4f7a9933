-- What is found in a range of numbers: the first that passes a test.
use Rattle.std.proofs.Common.{◌≡◌, ℕ, ◌+◌, ◌-◌, ◌<◌, ◌≤◌, ◌⊎◌, inl, inr, Bool, true, false, true≢false, Option, Some, None, find, unwrap_or, sym, ap, ◌∙◌, subst, arith, refl}
use Rattle.std.specs.List.{range_with_len}
use Rattle.std.proofs.lemmas.List.FromFn.{length-range_with_len, get_or-range_with_len}
use Rattle.cl_runs.proofs.FirstFound.{first_found, none_passes}

-- a number of the range passes, and none of the range before it does
pub record IsFirstInRange (test : ℕ → Bool) (from len found : ℕ) : Type 0 where
  pub not_before : from ≤ found
  pub not_after : found < from + len
  pub passes : test found ≡ true
  pub fails_before : (number : ℕ) → from ≤ number → number < found → test number ≡ false

module _ (test : ℕ → Bool) (from len : ℕ) where
  first_of : (found : ℕ) → find test (range_with_len from len) ≡ Some found → IsFirstInRange test from len found
  first_of found is =
      let first = first_found test (range_with_len from len) found is in
      let below : first.place < len = omega (arith, first.within, length-range_with_len from len) in
      let at : from + first.place ≡ found = sym (get_or-range_with_len from len first.place 0 below) ∙ first.is 0 in
      record {
        not_before = omega (arith, at);
        not_after = omega (arith, at, below);
        passes = first.passes;
        fails_before = λ number after before.
            let place = number - from in
            let inside : place < len = omega (arith, at, below, before) in
            let number_is : from + place ≡ number = omega (arith, after) in
            subst (λ n. test n ≡ false) (get_or-range_with_len from len place 0 inside ∙ number_is)
            (first.fails_before place 0 (omega (arith, at, before, after)));
      }

  -- where a number of the range passes, the first is found
  pub first_in_range : (default number : ℕ) → from ≤ number → number < from + len → test number ≡ true
      → IsFirstInRange test from len (unwrap_or (find test (range_with_len from len)) default)
  first_in_range default number after before passes = by (find test (range_with_len from len)) refl
    where
      none : find test (range_with_len from len) ≡ None → ⊥
      none is =
          let inside : number - from < len = omega (arith, after, before) in
          let number_is : from + (number - from) ≡ number = omega (arith, after) in
          true≢false (sym passes ∙ ap test (sym number_is ∙ sym (get_or-range_with_len from len (number - from) 0 inside))
          ∙ none_passes test (range_with_len from len) is (number - from) 0 (omega (arith, inside, length-range_with_len from len)))

      by : (o : Option ℕ) → find test (range_with_len from len) ≡ o → IsFirstInRange test from len (unwrap_or o default)
      by (Some found) is = first_of found is
      by None is = absurd (none is)

  -- else the default stands for it
  pub first_or_default : (default : ℕ) → IsFirstInRange test from len (unwrap_or (find test (range_with_len from len)) default)
      ⊎ (unwrap_or (find test (range_with_len from len)) default ≡ default)
  first_or_default default = by (find test (range_with_len from len)) refl
    where
      by : (o : Option ℕ) → find test (range_with_len from len) ≡ o → IsFirstInRange test from len (unwrap_or o default) ⊎ (unwrap_or o default ≡ default)
      by (Some found) is = inl (first_of found is)
      by None is = inr refl
