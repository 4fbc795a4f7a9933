-- The arrivals of a phase in the first stride, with those whole strides after them, are all its arrivals. Times are in ticks.
use Rattle.std.proofs.Common.{◌≡◌, ℕ, suc, ◌+◌, ◌-◌, ◌*◌, ◌/◌, ◌%◌, ◌<◌, ◌≤◌, inl, inr, min, ℤ, pos, ◌≤ℤ◌, List, ap, sym, subst, arith, mul-le-mul_right}
use Rattle.std.specs.Int.{◌∣◌}
use Rattle.std.proofs.Math.Nat.{dvd-mul_left_of_dvd}
use Rattle.std.proofs.lemmas.Bool.{cases_lt}
use Rattle.std.proofs.lemmas.Int.{ints}
use Rattle.std.proofs.lemmas.Nat.{div-add-mod', mod_below}
use Rattle.cl_model.specs.declared.limits.TheConstants.{MOST_TICKS}
use Rattle.cl_stim.specs.{declared.phase.Phase.Phase, Phase.{IsPhase, IsArrivalOf, first_arrival}}
use Rattle.cl_stim.proofs.PhaseSteps.{first_arrives, first_after, first_before}
use Rattle.cl_phase.specs.{declared.{pace.Pace.TheVariants.Kept, stop.Stop.Stop, walk.{Ends.Ends, Longest.Longest}}, TightBounds.{ticks_or_none, length_from, reduced_from, delay_from, starts}, Inner.{Longest.{span_between, longer_of, longest_walk}, Scanned.{AreNoLonger, AreLongestFrom}}}
use Rattle.cl_phase.specs.Inner.Scanned.{IsInStrides}
use Rattle.cl_phase.proofs.{ArrivalsMove.{arrives_later, arrives_earlier}, LongestStrides.either_longest, LongestWalks.same_longest, StartFacts.{IsStart, start_within, starts_within}}

-- ---- of all starts

-- of the same starts
same_starts : (stops : List Stop) (ends : Ends) (place : ℕ) (Some Others : ℕ → Type 0) (longest : Longest)
    → ((start : ℕ) → Some start → Others start) → ((start : ℕ) → Others start → Some start)
    → AreLongestFrom stops ends place Some longest → AreLongestFrom stops ends place Others longest
same_starts stops ends place Some Others longest on back are = record {
  no_longer = λ start is. are.no_longer start (back start is);
  least = λ most within. are.least most (λ start is. within start (on start is));
}

equal : (a b : ℕ) → a ≤ b → b ≤ a → a ≡ b
equal a b h k = omega (arith, h, k)

-- the longest walks from all starts are the greatest of them
pub longest_of_starts : (stops : List Stop) (ends : Ends) (place : ℕ) (phase : Phase) → IsPhase phase → (ticks : ℕ) (longest : Longest)
    → AreLongestFrom stops ends place (IsStart phase ticks) longest → longest ≡ longest_walk stops ends place (starts (Kept phase) ticks)
longest_of_starts stops ends place phase is ticks longest are =
    let span = span_between ends in
    let length : ℕ → ℕ = λ start. ticks_or_none (length_from stops span place (pos start)) in
    let reduced : ℕ → ℕ = λ start. ticks_or_none (reduced_from stops span place (pos start)) in
    let delay : ℕ → ℕ = λ start. ticks_or_none (delay_from stops ends.write place (pos start)) in
    let walk = longest_walk stops ends place (starts (Kept phase) ticks) in
    let within : AreNoLonger longest walk = are.least walk (λ start at. record {
      length = start_within phase is ticks length start at;
      reduced = start_within phase is ticks reduced start at;
      delay = start_within phase is ticks delay start at;
    }) in
    same_longest _ _ _ _ _ _
    (equal longest.length walk.length within.length (starts_within phase is ticks length longest.length (λ start at. (are.no_longer start at).length)))
    (equal longest.reduced walk.reduced within.reduced (starts_within phase is ticks reduced longest.reduced (λ start at. (are.no_longer start at).reduced)))
    (equal longest.delay walk.delay within.delay (starts_within phase is ticks delay longest.delay (λ start at. (are.no_longer start at).delay)))

-- ---- stride by stride

-- a start lies whole strides after one that comes before a moment, in the first stride
pub record IsCovered (phase : Phase) (ticks stride before start : ℕ) : Type 0 where
  pub is_start : IsStart phase ticks start
  pub first : ℕ
  pub times : ℕ
  pub early : first < before
  pub in_stride : first < stride
  pub is : start ≡ first + times * stride

-- the longest walks from all starts before an arrival, in the first stride, and those whole strides after them
pub record IsScannedTo (stops : List Stop) (ends : Ends) (place : ℕ) (phase : Phase) (ticks stride end : ℕ) (longest : Longest) (arrival : ℕ) : Type 0 where
  pub arrives : IsArrivalOf phase (pos arrival)
  pub near : arrival ≤ end + MOST_TICKS
  pub are_longest : AreLongestFrom stops ends place (IsCovered phase ticks stride arrival) longest

module _ (stops : List Stop) (ends : Ends) (place : ℕ) (phase : Phase) (is : IsPhase phase) (ticks stride : ℕ) (round : phase.period ∣ stride) (some : 1 ≤ stride) where
  -- that one is an arrival too
  first_is_arrival : (before start : ℕ) (covered : IsCovered phase ticks stride before start) → IsArrivalOf phase (pos covered.first)
  first_is_arrival before start covered = arrives_earlier phase (covered.times * stride) (dvd-mul_left_of_dvd phase.period round covered.times) (pos start) (pos covered.first)
      (omega (arith, ints, covered.is)) covered.is_start.arrives

  -- none lies before the first arrival from a moment on
  not_between : (from first : ℕ) (next : ℤ) → IsArrivalOf phase (pos first) → from ≤ first → next ≡ first_arrival phase (pos from) → next ≤ℤ pos first
  not_between from first next arrives after is_next = omega (arith, ints, is_next, first_before phase is (pos from) (pos first) arrives (omega (arith, ints, after)))

  -- the scan before its first arrival
  pub scan_begins : (longest : Longest) (end arrival : ℕ) → AreLongestFrom stops ends place (λ start. ⊥) longest → pos arrival ≡ first_arrival phase (pos 0) → pos arrival ≤ℤ pos MOST_TICKS
      → IsScannedTo stops ends place phase ticks stride end longest arrival
  scan_begins longest end arrival none first near = record {
    arrives = subst (IsArrivalOf phase) (sym first) (first_arrives phase is (pos 0));
    near = omega (arith, ints, near);
    are_longest = same_starts stops ends place (λ start. ⊥) (IsCovered phase ticks stride arrival) longest (λ start none. absurd none)
        (λ start covered.
        let late : pos arrival ≤ℤ pos covered.first = not_between 0 covered.first (pos arrival) (first_is_arrival arrival start covered) (omega arith) first in
        omega (arith, ints, late, covered.early)) none;
  }

  module _ (arrival strides : ℕ) (within : arrival < min stride ticks) (strides_are : strides ≡ (ticks - 1 - arrival) / stride) where
    -- so many strides on lies no start past the last
    strides_fit : (arrival + strides * stride < ticks) × (ticks ≤ arrival + strides * stride + stride)
    strides_fit =
        let parts : (ticks - 1 - arrival) / stride * stride + (ticks - 1 - arrival) % stride ≡ ticks - 1 - arrival = div-add-mod' (ticks - 1 - arrival) stride in
        let rest : (ticks - 1 - arrival) % stride < stride = mod_below (ticks - 1 - arrival) stride some in
        let all : strides * stride ≡ (ticks - 1 - arrival) / stride * stride = ap (λ n. n * stride) strides_are in
        (omega (arith, parts, rest, all, within), omega (arith, parts, rest, all, within))

    few_strides : (times : ℕ) → arrival + times * stride < ticks → times ≤ strides
    few_strides times below = elim (cases_lt strides times) [
      | inl more ↦
          let product : (suc strides) * stride ≡ strides * stride + stride = omega arith in
          absurd (omega (arith, below, strides_fit, product, mul-le-mul_right stride more))
      | inr few ↦ few
    ]

    -- at its next
    pub scan_goes_on : (longest other : Longest) (end next : ℕ) → IsScannedTo stops ends place phase ticks stride end longest arrival
        → AreLongestFrom stops ends place (IsInStrides arrival stride strides) other → pos next ≡ first_arrival phase (pos (arrival + 1)) → next ≤ end + MOST_TICKS
        → IsScannedTo stops ends place phase ticks stride end (longer_of longest other) next
    scan_goes_on longest other end next so_far others first near =
        let after : pos (arrival + 1) ≤ℤ pos next = subst (λ z. pos (arrival + 1) ≤ℤ z) (sym first) (first_after phase is (pos (arrival + 1))) in
        let later : arrival < next = omega (arith, ints, after) in
        record {
          arrives = subst (IsArrivalOf phase) (sym first) (first_arrives phase is (pos (arrival + 1)));
          near = near;
          are_longest = either_longest stops ends place (IsCovered phase ticks stride arrival) (IsInStrides arrival stride strides) (IsCovered phase ticks stride next) longest other
              so_far.are_longest others
              (λ start covered. record {
                is_start = covered.is_start;
                first = covered.first;
                times = covered.times;
                early = omega (arith, covered.early, later);
                in_stride = covered.in_stride;
                is = covered.is;
              })
              (λ start at. record {
                is_start = record {
                  within = omega (arith, at.is, strides_fit, mul-le-mul_right stride at.within);
                  arrives = arrives_later phase (at.done * stride) (dvd-mul_left_of_dvd phase.period round at.done) (pos arrival) (pos start) (omega (arith, ints, at.is)) so_far.arrives;
                };
                first = arrival;
                times = at.done;
                early = later;
                in_stride = omega (arith, within);
                is = at.is;
              })
              (λ start covered. elim (cases_lt covered.first arrival) [
                | inl earlier ↦ inl (record {
                  is_start = covered.is_start;
                  first = covered.first;
                  times = covered.times;
                  early = earlier;
                  in_stride = covered.in_stride;
                  is = covered.is;
                })
                | inr not ↦ elim (cases_lt arrival covered.first) [
                  | inl past ↦
                      let late : pos next ≤ℤ pos covered.first = not_between (arrival + 1) covered.first (pos next) (first_is_arrival next start covered) (omega (arith, past)) first in
                      absurd (omega (arith, ints, late, covered.early))
                  | inr no_later ↦
                      let same : covered.first ≡ arrival = omega (arith, not, no_later) in
                      let at : start ≡ arrival + covered.times * stride = omega (arith, covered.is, same) in
                      inr (record { done = covered.times; within = few_strides covered.times (omega (arith, at, covered.is_start.within)); is = at })
                ]
              ]);
        }

  -- and past its last
  pub scan_ends : (longest : Longest) (end arrival : ℕ) → IsScannedTo stops ends place phase ticks stride end longest arrival → min stride ticks ≤ arrival
      → longest ≡ longest_walk stops ends place (starts (Kept phase) ticks)
  scan_ends longest end arrival scanned past = longest_of_starts stops ends place phase is ticks longest
      (same_starts stops ends place (IsCovered phase ticks stride arrival) (IsStart phase ticks) longest (λ start covered. covered.is_start)
      (λ start at.
      let parts : start / stride * stride + start % stride ≡ start = div-add-mod' start stride in
      let rest : start % stride < stride = mod_below start stride some in
      record {
        is_start = at;
        first = start % stride;
        times = start / stride;
        early = omega (arith, parts, rest, at.within, past);
        in_stride = rest;
        is = omega (arith, parts);
      })
      scanned.are_longest)
