-- The first and the last arrivals about moments at 0 or later, and the first moment that is counted
-- for a job.
use Rattle.std.proofs.Common.{◌≡◌, ℕ, ◌≤◌, Bool, true, false, ℤ, pos, negsuc, ◌+ℤ◌, ◌-ℤ◌, ◌≤ℤ◌, unsigned_abs, refl, sym, ◌∙◌, subst, arith}
use Rattle.std.specs.Int.{int_max}
use Rattle.std.proofs.lemmas.Int.{ints, int_max_is}
use Rattle.cl_stim.specs.{declared.phase.Phase.Phase, Phase.{IsPhase, arrives_at, first_arrival, last_arrival}}
use Rattle.cl_stim.proofs.{ArrivalTests.{arrives_from_test, test_from_arrival}, PhaseSteps.{first_arrives, first_after, first_before, last_after}}
use Rattle.cl_model.specs.declared.limits.TheConstants.{MOST_TICKS}
use Rattle.cl_lead.specs.{declared.sure.SureWork.SureWork, Inner.Sure.{NoneArrives, IsFirstCounted}}

not_true : (b : Bool) → (b ≡ true → ⊥) → b ≡ false
not_true true never = absurd (never refl)
not_true false never = refl

abs_is : (z : ℤ) → pos 0 ≤ℤ z → pos (unsigned_abs z) ≡ z
abs_is (pos n) some = refl
abs_is (negsuc n) some = absurd (omega (arith, ints, some))

module _ (phase : Phase) (is : IsPhase phase) (moment : ℕ) (found : ℤ) (at : found ≡ first_arrival phase (pos moment)) where
  there : pos 0 ≤ℤ found
  there = later (first_arrival phase (pos moment)) (first_after phase is (pos moment)) at
    where
      later : (first : ℤ) → pos moment ≤ℤ first → found ≡ first → pos 0 ≤ℤ found
      later first after same = omega (arith, ints, after, same)

  is_found : pos (unsigned_abs found) ≡ first_arrival phase (pos moment)
  is_found = abs_is found there ∙ at

  -- the first one arrives
  pub first_passes : arrives_at phase (pos (unsigned_abs found)) ≡ true
  first_passes = subst (λ z. arrives_at phase z ≡ true) (sym is_found)
      (test_from_arrival phase is (first_arrival phase (pos moment)) (first_arrives phase is (pos moment)))

  -- and none before
  pub first_is_first : (between : ℕ) → moment ≤ between → arrives_at phase (pos between) ≡ true → unsigned_abs found ≤ between
  first_is_first between after passes =
      no_later (unsigned_abs found) (first_arrival phase (pos moment)) is_found
      (first_before phase is (pos moment) (pos between) (arrives_from_test phase is (pos between) passes) (omega (arith, ints, after)))
    where
      no_later : (n : ℕ) (first : ℤ) → pos n ≡ first → first ≤ℤ pos between → n ≤ between
      no_later n first same by = omega (arith, ints, same, by)

-- none arrives between a moment and the last arrival before it, or 0
module _ (phase : Phase) (is : IsPhase phase) (until : ℕ) (last : ℤ) (at : last ≡ last_arrival phase (pos until -ℤ pos 1)) (found : ℕ) where
  pub none_after_last : last ≤ℤ pos found → NoneArrives phase found until
  none_after_last by between after before = not_true (arrives_at phase (pos between)) (λ passes.
      past (last_arrival phase (pos until -ℤ pos 1)) at
      (last_after phase is (pos until -ℤ pos 1) (pos between) (arrives_from_test phase is (pos between) passes) (omega (arith, ints, before))))
    where
      past : (z : ℤ) → last ≡ z → pos between ≤ℤ z → ⊥
      past z same late = omega (arith, ints, by, after, same, late)

-- the first moment that is counted
module _ (work : SureWork) (arrival : ℕ) (last left found : ℤ) (at : last ≡ last_arrival work.arrivals (pos arrival -ℤ pos 1))
    (not_after : last ≤ℤ (pos arrival -ℤ pos 1)) (near : ((pos arrival -ℤ pos 1) -ℤ pos MOST_TICKS) ≤ℤ last)
    (next : left ≡ (last +ℤ pos 1)) (is : found ≡ int_max left (pos 0)) where
  found_some : pos 0 ≤ℤ found
  found_some = omega (arith, ints, is, int_max_is left (pos 0))

  found_least : (z : ℤ) → pos 0 ≤ℤ z → (last +ℤ pos 1) ≤ℤ z → found ≤ℤ z
  found_least z some after = omega (arith, ints, is, int_max_is left (pos 0), next, some, after)

  found_after : (last +ℤ pos 1) ≤ℤ found
  found_after = omega (arith, ints, is, int_max_is left (pos 0), next)

  is_moment : pos (unsigned_abs found) ≡ found
  is_moment = abs_is found found_some

  below : (n : ℕ) → (last +ℤ pos 1) ≤ℤ pos n → unsigned_abs found ≤ n
  below n after = omega (arith, ints, is_moment, found_least (pos n) (omega (arith, ints)) after)

  pub first_counted_is : IsFirstCounted work arrival (unsigned_abs found)
  first_counted_is = record {
    by = below arrival (omega (arith, ints, not_after));
    near = omega (arith, ints, is_moment, found_after, near);
    after = subst (λ z. (z +ℤ pos 1) ≤ℤ pos (unsigned_abs found)) at (omega (arith, ints, is_moment, found_after));
    first = λ from after. below from (subst (λ z. (z +ℤ pos 1) ≤ℤ pos from) (sym at) after);
  }
