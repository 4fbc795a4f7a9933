-- The greatest reaction of many first jobs, block after block.
use Rattle.std.proofs.Common.{◌≡◌, ℕ, ◌+◌, ◌-◌, ◌<◌, ◌≤◌, List, length, ap, subst, ◌∙◌, arith, inl, inr}
use Rattle.std.specs.Prelude.{slice_index, EachIndex}
use Rattle.std.proofs.lemmas.Bool.{cases_lt}
use Rattle.cl_lanes.specs.Gaps.{HasGap, IsFirst}
use Rattle.cl_exact.specs.{declared.{beat.Beat.Beat, scan.Greatest.Greatest}, Inner.{Beats.{AreBeats, reaction_of}, Blocks.{AreStarts, AreEnds}, Scans.{IsGreatestOf, NoneHas, IsFirstWith}}}
use Rattle.cl_exact.proofs.ForwardJobs.{starts_before_end}

module _ (beats : List Beat) (are : AreBeats beats) (first : ℕ) (ends starts : List ℕ)
    (are_ends : AreEnds beats first ends) (are_starts : AreStarts beats first starts) (as_many : length ends ≡ length starts) where
  -- each chain of a block ends after it starts
  pub block_in_order : EachIndex ends (λ i. slice_index starts i ≤ slice_index ends i)
  block_in_order i below =
      omega (arith, are_ends i below, are_starts i (omega (arith, as_many)), starts_before_end beats are (first + i))

  -- its gap is its reaction
  pub gap_is_reaction : (gap i : ℕ) → i < length ends → HasGap ends starts gap i → reaction_of beats (first + i) ≡ gap
  gap_is_reaction gap i below has = omega (arith, has, are_ends i below, are_starts i (omega (arith, as_many)))

  pub reaction_is_gap : (gap i : ℕ) → i < length ends → reaction_of beats (first + i) ≡ gap → HasGap ends starts gap i
  reaction_is_gap gap i below is =
      omega (arith, is, are_ends i below, are_starts i (omega (arith, as_many)), starts_before_end beats are (first + i))

  -- what is at least each gap of a block is at least each reaction
  pub block_above : (greatest : ℕ) → EachIndex ends (λ i. slice_index ends i ≤ slice_index starts i + greatest)
      → (job : ℕ) → first ≤ job → job < first + length ends → reaction_of beats job ≤ greatest
  block_above greatest above job from below =
      let i : ℕ = job - first in
      let place : first + i ≡ job = omega arith in
      let within : i < length ends = omega arith in
      subst (λ n. reaction_of beats n ≤ greatest) place
      (omega (arith, above i within, are_ends i within, are_starts i (omega (arith, as_many))))

  -- no reaction of the block is a gap that no place has
  pub block_without : (gap : ℕ) → EachIndex ends (λ i. HasGap ends starts gap i → ⊥) → NoneHas beats first (length ends) gap
  block_without gap without job from below is =
      let i : ℕ = job - first in
      let place : first + i ≡ job = omega arith in
      let within : i < length ends = omega arith in
      without i within (reaction_is_gap gap i within (ap (reaction_of beats) place ∙ is))

  -- the first place with a gap is the first job with that reaction
  pub block_first : (gap place : ℕ) → IsFirst ends starts gap place → IsFirstWith beats first (length ends) gap (first + place)
  block_first gap place is = record {
    not_before = omega arith;
    within = omega (arith, is.within);
    has = gap_is_reaction gap place is.within is.here;
    first_of = λ earlier from before has.
        let i : ℕ = earlier - first in
        let same : first + i ≡ earlier = omega arith in
        is.before i (omega arith) (reaction_is_gap gap i (omega (arith, is.within)) (ap (reaction_of beats) same ∙ has));
  }

-- one block more without the reaction
pub none_more : (beats : List Beat) (first done size reaction : ℕ) → NoneHas beats first done reaction
    → NoneHas beats (first + done) size reaction → NoneHas beats first (done + size) reaction
none_more beats first done size reaction before here job from below has =
    elim (cases_lt job (first + done)) [
      | inl earlier ↦ before job from earlier has
      | inr later ↦ here job later (omega (arith, below)) has
    ]

-- a block without a greater reaction changes nothing
pub greatest_stays : (beats : List Beat) (first done size : ℕ) (so_far : Greatest) → 0 < done → IsGreatestOf beats first done so_far
    → ((job : ℕ) → first + done ≤ job → job < first + done + size → reaction_of beats job ≤ so_far.reaction)
    → IsGreatestOf beats first (done + size) so_far
greatest_stays beats first done size so_far some is above = record {
  not_before = is.not_before;
  above_all = λ job from below.
      elim (cases_lt job (first + done)) [
        | inl earlier ↦ is.above_all job from earlier
        | inr later ↦ above job later (omega (arith, below))
      ];
  first_of = is.first_of;
  within = λ _. omega (arith, is.within some);
  attained = λ _. is.attained some;
}

-- the first of a block that has a greater reaction than all before
pub greatest_rises : (beats : List Beat) (first done size : ℕ) (so_far now : Greatest) → IsGreatestOf beats first done so_far
    → (0 < done → so_far.reaction < now.reaction)
    → ((job : ℕ) → first + done ≤ job → job < first + done + size → reaction_of beats job ≤ now.reaction)
    → IsFirstWith beats (first + done) size now.reaction now.job → IsGreatestOf beats first (done + size) now
greatest_rises beats first done size so_far now is more above here = record {
  not_before = omega (arith, here.not_before);
  above_all = λ job from below.
      elim (cases_lt job (first + done)) [
        | inl earlier ↦ omega (arith, is.above_all job from earlier, more (omega arith))
        | inr later ↦ above job later (omega (arith, below))
      ];
  first_of = λ job from less.
      elim (cases_lt job (first + done)) [
        | inl earlier ↦ omega (arith, is.above_all job from earlier, more (omega arith))
        | inr later ↦
            let least = above job later (omega (arith, here.within, less)) in
            elim (cases_lt (reaction_of beats job) now.reaction) [
              | inl done ↦ done
              | inr as_great ↦ absurd (here.first_of job later less (omega arith))
            ]
      ];
  within = λ _. omega (arith, here.within);
  attained = λ _. here.has;
}
