-- The phases that are kept so far, with one more. Times are in ticks.
use Rattle.std.proofs.Common.{◌≡◌, ℕ, ◌+◌, ◌-◌, ◌*◌, ◌/◌, ◌^◌, ◌<◌, ◌≤◌, Bool, true, false, cond, nat_le, List, ◌∷◌, min, All, Option, Some, None, ap, sym, ◌∙◌, subst, arith, inl, inr}
use Rattle.std.proofs.lemmas.Bool.{cases_lt}
use Rattle.std.proofs.lemmas.Bool.Decides.{nat_tests}
use Rattle.std.proofs.lemmas.Nat.Gcd.{dvd_antisymm}
use Rattle.std.proofs.lemmas.List.Elements.{All-cons, All-weaker}
use Rattle.std.proofs.Math.Nat.{div-mul_cancel}
use Rattle.cl_time.specs.Divisors.{IsLcm}
use Rattle.cl_model.specs.{declared.stimulus.StimulusKind.{StimulusKind, TheVariants.{Periodic, Sporadic, Burst}}, Ranges.IsKindInRange, Timing.{IsKindOrdered, greatest_distance}}
use Rattle.cl_stim.specs.{declared.phase.Phase.Phase, Phase.{IsPhaseInRange, phase_of, arrivals_in}, Multiples.{common_multiple, hyperperiod_of}}
use Rattle.cl_stim.proofs.{Multiples.common_is_least, Hyperperiods.{HasPeriod, Divides, hyperperiod_positive, hyperperiod_divided}}
use Rattle.cl_phase.specs.{declared.{pace.{TheConstants.MOST_ARRIVALS, Pace.TheVariants.Free}, keeping.Keeping.Keeping}, Kept.{come_round_soon, phase_beside, pace_with, kept_with}, Inner.{Ranges.{LONGEST_HYPERPERIOD, IsPaceInRange}, Keeping.{fewest_in, AreKept, AreKeptWith, IsBeside}}}
use Rattle.cl_phase.proofs.FewestArrivals.{few_by_fewest, fewest_longer, none_has_few}

pub have_periods : (phases : List Phase) → All IsPhaseInRange phases → All HasPeriod phases
have_periods phases are = All-weaker IsPhaseInRange HasPeriod (λ phase is. omega (arith, is.offset)) phases are

one_multiple : (a b m n : ℕ) → IsLcm a b m → IsLcm a b n → m ≡ n
one_multiple a b m n p q = dvd_antisymm (p.least n q.first q.second) (q.least m p.first p.second)

commuted : (m n : ℕ) → min m n ≡ min n m
commuted m n = omega arith

module _ (phase : Phase) (is : IsPhaseInRange phase) (kept : List Phase) (keeping : Keeping) (are : AreKept kept keeping) where
  all : All IsPhaseInRange (phase ∷ kept)
  all = All-cons IsPhaseInRange phase kept is are.phases

  -- the hyperperiod with one more
  pub longer_is : (ticks : ℕ) → IsLcm phase.period keeping.hyperperiod ticks → ticks ≡ hyperperiod_of (phase ∷ kept)
  unfolding hyperperiod_of
  longer_is ticks least =
      one_multiple phase.period keeping.hyperperiod ticks _ least
      (subst (λ n. IsLcm phase.period n (common_multiple phase.period (hyperperiod_of kept))) (sym are.hyperperiod)
      (common_is_least phase.period (hyperperiod_of kept) (omega (arith, is.offset)) (hyperperiod_positive kept (have_periods kept are.phases))))

  -- where it is too long they don't come round soon
  pub too_long : (ticks : ℕ) → IsLcm phase.period keeping.hyperperiod ticks → LONGEST_HYPERPERIOD < ticks → come_round_soon (phase ∷ kept) ≡ false
  too_long ticks least long =
      none_has_few (hyperperiod_of (phase ∷ kept)) (phase ∷ kept) all (hyperperiod_divided (phase ∷ kept) (have_periods (phase ∷ kept) all))
      (subst (λ n. LONGEST_HYPERPERIOD < n) (longer_is ticks least) long)

  -- else the fewest arrivals say whether they do
  module _ (ticks : ℕ) (least : IsLcm phase.period keeping.hyperperiod ticks) (some : 0 < ticks) (short : ticks ≤ LONGEST_HYPERPERIOD) where
    abbrev times : ℕ
    times = ticks / keeping.hyperperiod

    abbrev pub fewest_now : ℕ
    fewest_now = min (min (keeping.fewest * times) (2 ^ 64 - 1)) (arrivals_in ticks phase)

    divided : All (Divides keeping.hyperperiod) kept
    divided = subst (λ n. All (Divides n) kept) (sym are.hyperperiod) (hyperperiod_divided kept (have_periods kept are.phases))

    whole : keeping.hyperperiod * times ≡ ticks
    whole = omega (arith, div-mul_cancel keeping.hyperperiod least.second)

    some_times : 1 ≤ times
    some_times = elim (cases_lt 0 times) [
      | inl more ↦ more
      | inr none ↦
          let nothing : times ≡ 0 = omega (arith, none) in
          absurd (omega (arith, whole, ap (λ n. keeping.hyperperiod * n) nothing, some))
    ]

    pub fewest_is : fewest_now ≡ fewest_in ticks (phase ∷ kept)
    fewest_is =
        ap (λ n. min (min (n * times) (2 ^ 64 - 1)) (arrivals_in ticks phase)) are.fewest
        ∙ ap (λ n. min n (arrivals_in ticks phase)) (sym (fewest_longer keeping.hyperperiod times kept some_times are.phases divided (omega (arith, whole, short))))
        ∙ ap (λ n. min (fewest_in n kept) (arrivals_in ticks phase)) whole
        ∙ commuted (fewest_in ticks kept) (arrivals_in ticks phase)

    come_soon : come_round_soon (phase ∷ kept) ≡ nat_le fewest_now MOST_ARRIVALS
    come_soon =
        few_by_fewest (hyperperiod_of (phase ∷ kept)) MOST_ARRIVALS (phase ∷ kept) (omega arith)
        ∙ ap (λ n. nat_le (fewest_in n (phase ∷ kept)) MOST_ARRIVALS) (sym (longer_is ticks least))
        ∙ ap (λ n. nat_le n MOST_ARRIVALS) (sym fewest_is)

    pub not_soon : MOST_ARRIVALS < fewest_now → come_round_soon (phase ∷ kept) ≡ false
    not_soon many = come_soon ∙ fails fewest_now MOST_ARRIVALS many
      where
        fails : (m n : ℕ) → n < m → nat_le m n ≡ false
        fails m n h = grind (arith, nat_tests)

    pub soon : fewest_now ≤ MOST_ARRIVALS → AreKeptWith phase kept (record { hyperperiod = ticks; fewest = fewest_now })
    soon few = record {
      soon = come_soon ∙ passes fewest_now MOST_ARRIVALS few;
      are = record { hyperperiod = longer_is ticks least; fewest = fewest_is; short = short; phases = all };
    }
      where
        passes : (m n : ℕ) → m ≤ n → nat_le m n ≡ true
        passes m n h = grind (arith, nat_tests)

-- ---- groups that keep none

-- the greatest distance of a stimulus of a valid model
pub distance_in_range : (kind : StimulusKind) → IsKindInRange kind → IsKindOrdered kind → IsPaceInRange (Free (greatest_distance kind))
distance_in_range (Periodic period offset jitter) range ordered = (range.0.0, range.0.1)
distance_in_range (Sporadic least greatest) range ordered = (range.1.0, range.1.1)
distance_in_range (Burst period offset count distance) range ordered =
    let more : count ≡ (count - 1) + 1 = omega (arith, range.2.0) in
    let whole : count * distance ≡ (count - 1) * distance + distance = omega (arith, ap (λ n. n * distance) more) in
    (omega (arith, whole, ordered.1, range.3.0), omega (arith, range.0.1))

module _ (kind : StimulusKind) (range : IsKindInRange kind) (ordered : IsKindOrdered kind) (kept : List Phase) (keeping : Keeping) (are : AreKept kept keeping) where
  none_beside : phase_beside kept (phase_of kind) ≡ None → IsBeside kind kept (Free (greatest_distance kind)) keeping
  none_beside none = record {
    pace_is = sym (ap (pace_with (greatest_distance kind)) none);
    in_range = distance_in_range kind range ordered;
    are = subst (λ (o : Option Phase). AreKept (kept_with kept o) keeping) (sym none) are;
  }

  -- it has no phase
  pub without_phase : phase_of kind ≡ None → IsBeside kind kept (Free (greatest_distance kind)) keeping
  without_phase none = none_beside (ap (phase_beside kept) none)

  -- or one with which they don't come round soon
  pub with_late_phase : (phase : Phase) → phase_of kind ≡ Some phase → come_round_soon (phase ∷ kept) ≡ false
      → IsBeside kind kept (Free (greatest_distance kind)) keeping
  with_late_phase phase is late = none_beside (ap (phase_beside kept) is ∙ ap (λ (b : Bool). cond b (Some phase) None) late)
