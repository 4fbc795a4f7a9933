-- The least window from a fixed moment on: what is asked of windows never falls as they grow.
use Rattle.std.proofs.Common.{◌≡◌, ℕ, ◌+◌, ◌<◌, ◌≤◌, inl, inr, ℤ, pos, ◌-ℤ◌, false, nat_le, sym, subst, arith}
use Rattle.std.specs.List.{range_with_len}
use Rattle.std.proofs.Math.Nat.{mul-le-mul_right}
use Rattle.std.proofs.lemmas.Bool.{cases_lt, lt-leb}
use Rattle.std.proofs.lemmas.List.Folds.{list_any_none}
use Rattle.std.proofs.lemmas.List.FromFn.{get_or-range_with_len, length-range_with_len}
use Rattle.std.proofs.lemmas.List.Sums.{sum_by-le-sum_by}
use Rattle.cl_resp.specs.{declared.phased.{InPhase.InPhase, PhasedQuestion.PhasedQuestion}, Asked.{Asked, holds_within}, Inner.Phased.{asked_of, time_in_phase, NoneBefore}}
use Rattle.cl_cycle.proofs.CountedTicks.{wider_has as wider}
use Rattle.cl_resp.proofs.Windows.{demand_rises}

-- what a question by phases asks never falls as the window grows
pub asked_rises : (question : PhasedQuestion) (start : ℤ) (narrow wide : ℕ) → narrow ≤ wide
    → (asked_of question).demand start narrow ≤ (asked_of question).demand start wide
asked_rises question start narrow wide le =
    let rises = sum_by-le-sum_by (time_in_phase start narrow) (time_in_phase start wide) question.in_phase
    (λ (above : InPhase). mul-le-mul_right above.time
    (wider above.phase (start -ℤ pos above.jitter) (narrow + above.jitter) (wide + above.jitter) (omega (arith, le)))) in
    omega (arith, rises, demand_rises question.beside narrow wide le)

-- where no window is wide enough, none within so many ticks is
pub none_within : (asked : Asked) (start : ℤ) (most : ℕ) → ((lesser : ℕ) → 1 ≤ lesser → lesser ≤ most → lesser < asked.demand start lesser)
    → holds_within asked start most ≡ false
none_within asked start most none = list_any_none (λ width. nat_le (asked.demand start width) width) (range_with_len 1 most)
    (λ k d lt.
    let within : k < most = omega (arith, lt, length-range_with_len 1 most) in
    subst (λ width. nat_le (asked.demand start width) width ≡ false) (sym (get_or-range_with_len 1 most k d within))
    (lt-leb (asked.demand start (1 + k)) (1 + k) (none (1 + k) (omega arith) (omega (arith, within)))))

module _ (question : PhasedQuestion) (start : ℤ) (width : ℕ) (none : NoneBefore (asked_of question) start width) where
  abbrev asked : Asked
  asked = asked_of question

  -- none serves below what a width needs
  pub none_below_needed : NoneBefore asked start (asked.demand start width)
  none_below_needed lesser some below = elim (cases_lt lesser width) [
    | inl before ↦ none lesser some before
    | inr after ↦ omega (arith, below, asked_rises question start width lesser after)
  ]

  pub none_past : (most : ℕ) → most < width → holds_within asked start most ≡ false
  none_past most past = none_within asked start most (λ lesser some within. none lesser some (omega (arith, past, within)))

  pub none_needed : (most : ℕ) → most < asked.demand start width → holds_within asked start most ≡ false
  none_needed most past = none_within asked start most (λ lesser some within. none_below_needed lesser some (omega (arith, past, within)))
