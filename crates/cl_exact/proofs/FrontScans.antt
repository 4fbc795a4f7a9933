-- The greatest reactions up to each place, block after block.
use Rattle.std.proofs.Common.{◌≡◌, ◌⊎◌, ℕ, ◌+◌, ◌-◌, ◌<◌, ◌≤◌, List, length, sym, subst, arith, inl, inr}
use Rattle.std.specs.Prelude.{slice_index, slice_set, EachIndex, SomeIndex}
use Rattle.std.proofs.lemmas.Bool.{cases_lt}
use Rattle.std.proofs.lemmas.List.{get_or-set_same, get_or-set_other}
use Rattle.cl_lanes.specs.Gaps.{HasGap}
use Rattle.cl_exact.specs.{declared.beat.Beat.Beat, Inner.{Beats.{AreBeats, beat_in, forward_start, forward_write}, Blocks.{AreWrites, AreStarts}, Fronts.{reaction_to, IsGreatestTo, AreGreatestTo}}}
use Rattle.cl_exact.proofs.{BeatFacts.reads_rise, ForwardJobs.reads_after}

module _ (beats : List Beat) (are : AreBeats beats) (place first : ℕ) (within : place < length beats) (ends starts : List ℕ)
    (are_writes : AreWrites beats place first ends) (are_starts : AreStarts beats first starts) (as_many : length ends ≡ length starts) where
  -- each chain writes at a place after it starts
  starts_before_write : (m : ℕ) → forward_start beats m ≤ forward_write beats m place
  starts_before_write m = omega (arith, reads_rise (beat_in beats 0) (m - 1) m (omega arith), reads_after beats are m place within)

  pub writes_in_order : EachIndex ends (λ i. slice_index starts i ≤ slice_index ends i)
  writes_in_order i below = omega (arith, are_writes i below, are_starts i (omega (arith, below, as_many)), starts_before_write (first + i))

  -- what a block raises a greatest reaction to is the greatest with that block
  pub raised_by_block : (from so_far now : ℕ) → from ≤ first → so_far ≤ now
      → EachIndex ends (λ i. slice_index ends i ≤ slice_index starts i + now)
      → (now ≡ so_far) ⊎ SomeIndex ends (HasGap ends starts now)
      → IsGreatestTo beats place from first so_far → IsGreatestTo beats place from (first + length ends) now
  raised_by_block from so_far now before not_less above either is = record {
    above_all = λ job after below.
        elim (cases_lt job first) [
          | inl earlier ↦ omega (arith, is.above_all job after earlier, not_less)
          | inr later ↦
              let i : ℕ = job - first in
              let same : first + i ≡ job = omega (arith, later) in
              let there : i < length ends = omega (arith, below, later) in
              subst (λ n. reaction_to beats place n ≤ now) same
              (omega (arith, above i there, are_writes i there, are_starts i (omega (arith, there, as_many))))
        ];
    attained = λ some.
        elim either [
          | inl same ↦
              let found = is.attained (omega (arith, same, some)) in
              (found.0, found.1, omega (arith, found.2, same))
          | inr found ↦
              let i : ℕ = found.0 in (
                first + i,
                omega (arith, before),
                omega (arith, found.2, are_writes i found.1, are_starts i (omega (arith, found.1, as_many))),
              )
        ];
  }

-- one greatest reaction more
pub more_places : (beats : List Beat) (size first next : ℕ) (greatest : List ℕ) (now : ℕ) → size < length greatest
    → AreGreatestTo beats size first next greatest → IsGreatestTo beats size first next now
    → AreGreatestTo beats (size + 1) first next (slice_set greatest size now)
more_places beats size first next greatest now room before here place below =
    elim (cases_lt place size) [
      | inl earlier ↦
          let other : place ≡ size → ⊥ = λ same. omega (arith, earlier, same) in
          subst (IsGreatestTo beats place first next) (sym (get_or-set_other greatest size place now 0 other)) (before place earlier)
      | inr later ↦
          let same : size ≡ place = omega (arith, later, below) in
          subst (λ n. IsGreatestTo beats n first next (slice_index (slice_set greatest size now) n)) same
          (subst (IsGreatestTo beats size first next) (sym (get_or-set_same greatest size now 0 room)) here)
    ]

-- those of no place, and of no first jobs
pub no_places : (beats : List Beat) (first next : ℕ) (greatest : List ℕ) → AreGreatestTo beats 0 first next greatest
no_places beats first next greatest place below = absurd (omega (arith, below))

pub no_first_jobs : (beats : List Beat) (place first : ℕ) → IsGreatestTo beats place first (first + 0) 0
no_first_jobs beats place first = record {
  above_all = λ job from below. absurd (omega (arith, from, below));
  attained = λ some. absurd (omega (arith, some));
}
