-- The window of a task: the least width that holds its own demand, which never falls as the width grows, and so the
-- least fixpoint of the demand.
use Rattle.std.proofs.Common.{◌≡◌, ℕ, ◌+◌, ◌-◌, ◌*◌, ◌<◌, ◌≤◌, ◌⊎◌, inl, inr, Bool, false, nat_le, Option, Some, None, List, get_or, refl, sym, ap, ◌∙◌, subst, arith}
use Rattle.std.specs.List.{range_with_len}
use Rattle.std.proofs.lemmas.Bool.{cases_lt, leb-true, leb-false, le-leb, true≢false}
use Rattle.std.proofs.lemmas.List.FromFn.{get_or-range_with_len, length-range_with_len}
use Rattle.std.proofs.lemmas.List.Sums.{sum_by-le-sum_by}
use Rattle.std.proofs.Math.Nat.{mul-le-mul_right}
use Rattle.cl_runs.proofs.FirstFound.{first_found, none_passes}
use Rattle.cl_stim.proofs.Releases.{most_rises}
use Rattle.cl_stim.specs.{AnyStimulus.kind_of, Releases.most_releases}
use Rattle.cl_resp.specs.{declared.question.{Above.Above, Question.Question}, Response.{demand, busy_window, IsWindow, IsLeastFixpoint, HasNoFixpoint}}

-- ---- the demand never falls

pub demand_rises : (question : Question) (narrow wide : ℕ) → narrow ≤ wide → demand question narrow ≤ demand question wide
unfolding demand
demand_rises question narrow wide le =
    let rises = sum_by-le-sum_by (λ (above : Above). most_releases (kind_of above.stimulus) narrow * above.time)
    (λ (above : Above). most_releases (kind_of above.stimulus) wide * above.time) question.above
    (λ above. mul-le-mul_right above.time (most_rises (kind_of above.stimulus) narrow wide le)) in
    omega (arith, rises)

-- ---- the window in words

module _ (question : Question) where
  -- whether a width holds its own demand
  abbrev holds : ℕ → Bool
  holds width = nat_le (demand question width) width

  -- the widths that are tried, and the one at a place
  abbrev widths : List ℕ
  widths = range_with_len 1 (question.deadline - question.jitter)

  fails_at : (width place : ℕ) → 1 + place ≡ width → place < question.deadline - question.jitter → holds (get_or widths place 0) ≡ false → holds width ≡ false
  fails_at width place is within fails =
      subst (λ w. holds w ≡ false) (get_or-range_with_len 1 (question.deadline - question.jitter) place 0 within ∙ is) fails

  pub window_is_least : (width : ℕ) → busy_window question ≡ Some width → IsWindow question width
  unfolding busy_window
  window_is_least width is =
      let found = first_found holds widths width is in
      let within : found.place < question.deadline - question.jitter = omega (arith, found.within, length-range_with_len 1 (question.deadline - question.jitter)) in
      let at : 1 + found.place ≡ width = sym (get_or-range_with_len 1 (question.deadline - question.jitter) found.place 0 within) ∙ found.is 0 in
      record {
        some = omega (arith, at);
        within = omega (arith, at, within);
        enough = leb-true (demand question width) width found.passes;
        least = λ lesser some enough. elim (cases_lt lesser width) [
          | inl below ↦
              let fails = fails_at lesser (lesser - 1) (omega (arith, some)) (omega (arith, at, within, below))
              (found.fails_before (lesser - 1) 0 (omega (arith, at, some, below))) in
              absurd (true≢false (sym (le-leb (demand question lesser) lesser enough) ∙ fails))
          | inr above ↦ above
        ];
      }

  pub no_window_holds : busy_window question ≡ None → (width : ℕ) → 1 ≤ width → width ≤ question.deadline - question.jitter → width < demand question width
  unfolding busy_window
  no_window_holds is width some within =
      leb-false (demand question width) width (fails_at width (width - 1) (omega (arith, some)) (omega (arith, some, within))
      (none_passes holds widths is (width - 1) 0 (omega (arith, some, within, length-range_with_len 1 (question.deadline - question.jitter)))))

  some_or_none : (busy_window question ≡ None) ⊎ ((width : ℕ) × (busy_window question ≡ Some width))
  some_or_none = go (busy_window question) refl
    where
      go : (found : Option ℕ) → busy_window question ≡ found → (busy_window question ≡ None) ⊎ ((width : ℕ) × (busy_window question ≡ Some width))
      go None is = inl is
      go (Some width) is = inr (width, is)

  pub least_is_window : (width : ℕ) → IsWindow question width → busy_window question ≡ Some width
  least_is_window width window = elim some_or_none [
    | inl none ↦
        let short = no_window_holds none width window.some window.within in
        absurd (omega (arith, short, window.enough))
    | inr found ↦
        let other = window_is_least found.0 found.1 in
        let same : found.0 ≡ width = omega (arith, other.least width window.some window.enough, window.least found.0 other.some other.enough) in
        found.1 ∙ ap (λ n. Some n) same
  ]

  pub none_where_none_holds : ((width : ℕ) → 1 ≤ width → width ≤ question.deadline - question.jitter → width < demand question width) → busy_window question ≡ None
  none_where_none_holds short = elim some_or_none [
    | inl none ↦ none
    | inr found ↦
        let other = window_is_least found.0 found.1 in
        absurd (omega (arith, short found.0 other.some other.within, other.enough))
  ]

  -- ---- fixpoints

  -- where the task takes some time, so does the demand of each width
  pub demand_some : (width : ℕ) → question.time ≤ demand question width
  unfolding demand
  demand_some width = omega arith

  -- the least width that holds its own demand is a fixpoint: the demand holds its own demand too, and is no greater
  pub window_is_fixpoint : 1 ≤ question.time → (width : ℕ) → busy_window question ≡ Some width → IsLeastFixpoint question width
  window_is_fixpoint some width is =
      let window = window_is_least width is in
      let needed : width ≤ demand question width = window.least (demand question width) (omega (arith, some, demand_some width))
      (demand_rises question (demand question width) width window.enough) in
      record {
        some = window.some;
        within = window.within;
        fixpoint = omega (arith, needed, window.enough);
        least = λ other other_some fixpoint. window.least other other_some (omega (arith, fixpoint));
      }

  pub no_window_no_fixpoint : busy_window question ≡ None → HasNoFixpoint question
  no_window_no_fixpoint is width some within fixpoint =
      let short = no_window_holds is width some within in omega (arith, short, fixpoint)

  pub fixpoint_is_window : 1 ≤ question.time → (width : ℕ) → IsLeastFixpoint question width → busy_window question ≡ Some width
  fixpoint_is_window some width least = elim some_or_none [
    | inl none ↦ absurd (no_window_no_fixpoint none width least.some least.within least.fixpoint)
    | inr found ↦
        let other = window_is_fixpoint some found.0 found.1 in
        let same : found.0 ≡ width = omega (arith, other.least width least.some least.fixpoint, least.least found.0 other.some other.fixpoint) in
        found.1 ∙ ap (λ n. Some n) same
  ]

  pub no_fixpoint_no_window : 1 ≤ question.time → HasNoFixpoint question → busy_window question ≡ None
  no_fixpoint_no_window some no_fixpoint = elim some_or_none [
    | inl none ↦ none
    | inr found ↦
        let is = window_is_fixpoint some found.0 found.1 in
        absurd (no_fixpoint found.0 is.some is.within is.fixpoint)
  ]

  -- ---- the search for it

  -- no width holds its own demand below what the task itself needs
  pub less_at_start : (lesser : ℕ) → lesser < question.block + question.time → lesser < demand question lesser
  unfolding demand
  less_at_start lesser below = omega (arith, below)

  -- nor below what a width needs where none does below that width
  pub less_below_demand : (width : ℕ) → ((lesser : ℕ) → lesser < width → lesser < demand question lesser)
      → (lesser : ℕ) → lesser < demand question width → lesser < demand question lesser
  less_below_demand width less lesser below = elim (cases_lt lesser width) [
    | inl before ↦ less lesser before
    | inr after ↦ omega (arith, below, demand_rises question width lesser after)
  ]

  -- the first width that holds its own demand is the window, where it is within the end
  pub found_at : (width : ℕ) → 1 ≤ width → width ≤ question.deadline - question.jitter → demand question width ≤ width
      → ((lesser : ℕ) → lesser < width → lesser < demand question lesser) → busy_window question ≡ Some width
  found_at width some within enough less = least_is_window width (record {
    some = some;
    within = within;
    enough = enough;
    least = λ lesser some holds. elim (cases_lt lesser width) [
      | inl before ↦ absurd (omega (arith, holds, less lesser before))
      | inr after ↦ after
    ];
  })

  -- there is no window where no width up to the end holds its own demand
  pub none_up_to : (width : ℕ) → question.deadline - question.jitter < width
      → ((lesser : ℕ) → lesser < width → lesser < demand question lesser) → busy_window question ≡ None
  none_up_to width past less = none_where_none_holds (λ lesser some within. less lesser (omega (arith, past, within)))
