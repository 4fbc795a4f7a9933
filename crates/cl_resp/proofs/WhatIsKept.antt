-- What is kept of the tasks above while a window rises: it holds of wider windows, too, and of what is counted anew.
use Rattle.std.proofs.Common.{◌≡◌, ℕ, ◌+◌, ◌*◌, ◌<◌, ◌≤◌, inl, inr, List, length, get_or, set, take, replicate, ap, subst, ◌∙◌, sym, refl, arith}
use Rattle.std.specs.Prelude.{slice_index}
use Rattle.std.specs.Prelude.{sum_by}
use Rattle.std.proofs.lemmas.Bool.{cases_eq, cases_lt}
use Rattle.std.proofs.lemmas.Grind.{get_or-set_at}
use Rattle.std.proofs.lemmas.List.{get_or-set_other, get_or-replicate, get_or_past, get_or_default, length-replicate, take_all}
use Rattle.std.proofs.lemmas.List.Sums.{get_or-le-sum_by, sum_by_more}
use Rattle.cl_stim.specs.{declared.arrivals.TheConstants.MOST_WIDTH, AnyStimulus.kind_of, Releases.most_releases}
use Rattle.cl_stim.proofs.Releases.{most_rises}
use Rattle.cl_resp.specs.{declared.question.{Above.Above, Question.Question}, Response.demand, Inner.Rising.{taken_in, AreTaken}}

-- a task above takes the same of each window between two that release as many
pub takes_between : (above : Above) (narrow wide : ℕ) → most_releases (kind_of above.stimulus) wide ≡ most_releases (kind_of above.stimulus) narrow
    → (width : ℕ) → narrow ≤ width → width ≤ wide → taken_in above width ≡ taken_in above narrow
takes_between above narrow wide as_many width from until =
    let kind = kind_of above.stimulus in
    let same : most_releases kind width ≡ most_releases kind narrow =
    omega (arith, as_many, most_rises kind narrow width from, most_rises kind width wide until) in
    ap (λ n. n * above.time) same

module _ {X : Type 0} (taken : X → ℕ → ℕ) (above : List X) (ticks until : List ℕ) (from : ℕ) (kept : AreTaken taken above ticks until from) where
  -- of wider windows
  pub kept_wider : (wider : ℕ) → from ≤ wider → AreTaken taken above ticks until wider
  kept_wider wider le = record {
    takes = λ k d known width low high. kept.takes k d known width (omega (arith, le, low)) high;
    few = kept.few;
  }

  -- with what one of them takes counted anew
  pub kept_anew : (place : ℕ) (much widest : ℕ) → place < length ticks → place < length until → much ≤ MOST_WIDTH
      → ((d : X) (width : ℕ) → from ≤ width → width ≤ widest → taken (get_or above place d) width ≡ much)
      → AreTaken taken above (set ticks place much) (set until place widest) from
  kept_anew place much widest in_ticks in_until small takes = record {
    takes = λ k d known width low high. elim (cases_eq k place) [
      | inl same ↦ ap (λ n. taken (get_or above n d) width) same
          ∙ takes d width low (omega (arith, high, get_or-set_at until place k widest 0 same in_until))
          ∙ sym (get_or-set_at ticks place k much 0 same in_ticks)
      | inr other ↦ kept.takes k d known width low (omega (arith, high, get_or-set_other until place k widest 0 other))
          ∙ sym (get_or-set_other ticks place k much 0 other)
    ];
    few = λ k. elim (cases_eq k place) [
      | inl same ↦ omega (arith, small, get_or-set_at ticks place k much 0 same in_ticks)
      | inr other ↦ omega (arith, kept.few k, get_or-set_other ticks place k much 0 other)
    ];
  }

  -- so that it takes that of the window
  pub record IsCountedAnew (place : ℕ) (item : X) (new_ticks new_until : List ℕ) : Type 0 where
    pub still : AreTaken taken above new_ticks new_until from
    pub here : slice_index new_ticks place ≡ taken item from

  pub counted_anew : (place much widest : ℕ) (item : X) (new_ticks new_until : List ℕ) → place < length ticks → place < length until → place < length above
      → item ≡ get_or above place item → much ≡ taken item from → much ≤ MOST_WIDTH
      → ((width : ℕ) → from ≤ width → width ≤ widest → taken item width ≡ taken item from)
      → new_ticks ≡ set ticks place much → new_until ≡ set until place widest → IsCountedAnew place item new_ticks new_until
  counted_anew place much widest item new_ticks new_until in_ticks in_until known is takes small between ticks_are until_are = record {
    still = subst (λ (l : List ℕ). AreTaken taken above l new_until from) (sym ticks_are) (subst (λ (l : List ℕ). AreTaken taken above (set ticks place much) l from) (sym until_are)
        (kept_anew place much widest in_ticks in_until small
        (λ d width low high. ap (λ (a : X). taken a width) (get_or_default above place d item known ∙ sym is) ∙ between width low high ∙ sym takes)));
    here = ap (λ (l : List ℕ). get_or l place 0) ticks_are ∙ get_or-set_at ticks place place much 0 refl in_ticks ∙ takes;
  }

  -- or where it took that of wider windows before
  pub counted_before : (place : ℕ) (item : X) (new_ticks new_until : List ℕ) → place < length above → item ≡ get_or above place item
      → from ≤ slice_index until place → new_ticks ≡ ticks → new_until ≡ until → IsCountedAnew place item new_ticks new_until
  counted_before place item new_ticks new_until known is wide ticks_are until_are = record {
    still = subst (λ (l : List ℕ). AreTaken taken above l new_until from) (sym ticks_are) (subst (λ (l : List ℕ). AreTaken taken above ticks l from) (sym until_are) kept);
    here = ap (λ (l : List ℕ). get_or l place 0) ticks_are ∙ sym (kept.takes place item known from (omega arith) wide) ∙ ap (λ (a : X). taken a from) (sym is);
  }

-- at first nothing is
pub none_kept : {X : Type 0} (taken : X → ℕ → ℕ) (above : List X) (n from : ℕ) → 1 ≤ from → AreTaken taken above (replicate n 0) (replicate n 0) from
none_kept taken above n from some = record {
  takes = λ k d known width low high. absurd (omega (arith, some, low, high, zeros k));
  few = λ k. omega (arith, zeros k);
}
  where
    zeros : (k : ℕ) → slice_index (replicate n 0) k ≡ 0
    zeros k = elim (cases_lt k n) [
      | inl below ↦ get_or-replicate n k 0 0 below
      | inr past ↦ get_or_past (replicate n 0) k 0 (omega (arith, past, length-replicate {A = ℕ} n 0))
    ]

-- ---- what the tasks so far take

module _ {X : Type 0} (takes : X → ℕ) (above : List X) (place : ℕ) (item : X) (known : place < length above) (is : item ≡ get_or above place item) where
  -- one of them takes no more than all
  pub one_within : takes item ≤ sum_by takes above
  one_within = omega (arith, get_or-le-sum_by takes above place item known, ap takes is)

  pub so_far : (ticks : ℕ) → ticks ≡ takes item → sum_by takes (take place above) + ticks ≡ sum_by takes (take (place + 1) above)
  so_far ticks same = omega (arith, same, sum_by_more takes above place item known, ap takes is)

-- ---- the demand of the tasks so far

module _ (question : Question) (width place : ℕ) (item : Above) (known : place < length question.above) (is : item ≡ get_or question.above place item) where
  -- one of them may exceed the end alone
  pub one_exceeds : (end : ℕ) → end < taken_in item width → end < demand question width
  unfolding demand
  one_exceeds end more = omega (arith, more, one_within (λ (above : Above). taken_in above width) question.above place item known is)

  pub one_more : (needed ticks : ℕ) → needed ≡ question.block + question.time + sum_by (λ (above : Above). taken_in above width) (take place question.above)
      → ticks ≡ taken_in item width
      → needed + ticks ≡ question.block + question.time + sum_by (λ (above : Above). taken_in above width) (take (place + 1) question.above)
  one_more needed ticks was takes = omega (arith, was, so_far (λ (above : Above). taken_in above width) question.above place item known is ticks takes)

pub all_needed : (question : Question) (width place needed : ℕ) → length question.above ≤ place
    → needed ≡ question.block + question.time + sum_by (λ (above : Above). taken_in above width) (take place question.above)
    → needed ≡ demand question width
unfolding demand
all_needed question width place needed all was =
    was ∙ ap (λ (l : List Above). question.block + question.time + sum_by (λ (above : Above). taken_in above width) l) (take_all place question.above all)
