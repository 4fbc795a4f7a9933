-- The last moment before another at which a task in phase can be released at the latest.
use Rattle.std.proofs.Common.{◌≡◌, ℕ, ◌+◌, ◌<◌, inl, inr, ℤ, pos, ◌+ℤ◌, ◌-ℤ◌, ◌≤ℤ◌, Bool, true, false, ◌||◌, List, length, get_or, take, refl, sym, ap, ◌∙◌, subst, arith}
use Rattle.std.specs.Prelude.{All, MatchOption, Option, Some, None}
use Rattle.std.specs.List.{list_any}
use Rattle.std.proofs.lemmas.Int.{ints}
use Rattle.std.proofs.lemmas.List.{length-take}
use Rattle.std.proofs.lemmas.List.Elements.{All-more}
use Rattle.std.proofs.lemmas.List.Folds.{list_any_more}
use Rattle.cl_model.specs.declared.limits.TheConstants.{MOST_TICKS}
use Rattle.cl_stim.specs.Phase.{IsPhase, IsArrivalOf, arrives_at, last_arrival}
use Rattle.cl_stim.proofs.{ArrivalTests.{arrives_from_test, test_from_arrival}, PhaseSteps.{last_arrives, last_before, last_after}}
use Rattle.cl_resp.specs.{declared.phased.InPhase.InPhase, Inner.Releases.{is_latest_release, IsLastReleaseOf, IsLaterOf}}

-- ---- of one task

not_both : (b : Bool) → (b ≡ true → ⊥) → b ≡ false
not_both true no_way = absurd (no_way refl)
not_both false no_way = refl

-- about a moment before which so much jitter passes
module _ (start arrival moment : ℤ) (jitter : ℕ) (at : moment ≡ (arrival +ℤ pos jitter)) where
  back : (moment -ℤ pos jitter) ≡ arrival
  back = omega (arith, ints, at)

  is_before : arrival ≤ℤ ((start -ℤ pos 1) -ℤ pos jitter) → (moment +ℤ pos 1) ≤ℤ start
  is_before h = omega (arith, ints, at, h)

  is_near : (far : ℕ) → (((start -ℤ pos 1) -ℤ pos jitter) -ℤ pos far) ≤ℤ arrival → start ≤ℤ (moment +ℤ pos (far + 1))
  is_near far h = omega (arith, ints, at, h)

  by_start : (between : ℤ) → (between +ℤ pos 1) ≤ℤ start → (between -ℤ pos jitter) ≤ℤ ((start -ℤ pos 1) -ℤ pos jitter)
  by_start between h = omega (arith, ints, h)

  past : (between : ℤ) → (moment +ℤ pos 1) ≤ℤ between → (between -ℤ pos jitter) ≤ℤ arrival → ⊥
  past between h k = omega (arith, ints, at, h, k)

module _ (above : InPhase) (is : IsPhase above.phase) (start arrival moment : ℤ)
    (last : arrival ≡ last_arrival above.phase ((start -ℤ pos 1) -ℤ pos above.jitter)) (at : moment ≡ (arrival +ℤ pos above.jitter))
    (near : (((start -ℤ pos 1) -ℤ pos above.jitter) -ℤ pos MOST_TICKS) ≤ℤ arrival) where
  abbrev latest : ℤ
  latest = (start -ℤ pos 1) -ℤ pos above.jitter

  none : (between : ℤ) → (moment +ℤ pos 1) ≤ℤ between → (between +ℤ pos 1) ≤ℤ start → is_latest_release between above ≡ true → ⊥
  none between after before passes =
      let arrives : IsArrivalOf above.phase (between -ℤ pos above.jitter) = arrives_from_test above.phase is (between -ℤ pos above.jitter) passes in
      past start arrival moment above.jitter at between after
      (subst (λ a. (between -ℤ pos above.jitter) ≤ℤ a) (sym last)
      (last_after above.phase is latest (between -ℤ pos above.jitter) arrives (by_start start arrival moment above.jitter at between before)))

  pub last_release_is : IsLastReleaseOf above start moment
  last_release_is = record {
    before = is_before start arrival moment above.jitter at (subst (λ a. a ≤ℤ latest) (sym last) (last_before above.phase is latest));
    near = is_near start arrival moment above.jitter at MOST_TICKS near;
    releases = subst (λ a. arrives_at above.phase a ≡ true) (sym (back start arrival moment above.jitter at))
        (test_from_arrival above.phase is arrival (subst (IsArrivalOf above.phase) (sym last) (last_arrives above.phase is latest)));
    none_between = λ between after before. not_both (is_latest_release between above) (none between after before);
  }

-- ---- of some tasks

-- a moment is the last one before another at which one of some tasks has a latest release
pub record IsLastAmong (above : List InPhase) (start moment : ℤ) : Type 0 where
  pub before : (moment +ℤ pos 1) ≤ℤ start
  pub near : start ≤ℤ (moment +ℤ pos (MOST_TICKS + 1))
  pub releases : list_any (is_latest_release moment) above ≡ true
  pub none_between : (between : ℤ) → (moment +ℤ pos 1) ≤ℤ between → (between +ℤ pos 1) ≤ℤ start
      → All (λ one. is_latest_release between one ≡ false) above

either_true : (a b : Bool) → b ≡ true → (a || b) ≡ true
either_true true b h = refl
either_true false b h = h

first_true : (a b : Bool) → a ≡ true → (a || b) ≡ true
first_true a b h = ap (λ c. c || b) h

module _ (above : List InPhase) (i : ℕ) (one : InPhase) (within : i < length above) (start release : ℤ) (of : IsLastReleaseOf (get_or above i one) start release) where
  -- the first task's
  last_first : i ≡ 0 → IsLastAmong (take (i + 1) above) start release
  last_first first = record {
    before = of.before;
    near = of.near;
    releases = list_any_more (is_latest_release release) above i one within
        ∙ either_true (list_any (is_latest_release release) (take i above)) (is_latest_release release (get_or above i one)) of.releases;
    none_between = λ between after before. All-more (λ a. is_latest_release between a ≡ false) above i one within
        (λ k d lt. absurd (omega (arith, lt, first, length-take i above))) (of.none_between between after before);
  }

  module _ (found moment : ℤ) (so_far : IsLastAmong (take i above) start found) (not_before : found ≤ℤ moment) (nor : release ≤ℤ moment) where
    -- the later of that and of those before
    none_before_both : (between : ℤ) → (moment +ℤ pos 1) ≤ℤ between → (between +ℤ pos 1) ≤ℤ start
        → All (λ a. is_latest_release between a ≡ false) (take (i + 1) above)
    none_before_both between after before = All-more (λ a. is_latest_release between a ≡ false) above i one within
        (so_far.none_between between (later moment found between not_before after) before) (of.none_between between (later moment release between nor after) before)
      where
        later : (a b c : ℤ) → b ≤ℤ a → (a +ℤ pos 1) ≤ℤ c → (b +ℤ pos 1) ≤ℤ c
        later a b c h k = omega (arith, ints, h, k)

    last_kept : moment ≡ found → IsLastAmong (take (i + 1) above) start moment
    last_kept same = record {
      before = subst (λ m. (m +ℤ pos 1) ≤ℤ start) (sym same) so_far.before;
      near = subst (λ m. start ≤ℤ (m +ℤ pos (MOST_TICKS + 1))) (sym same) so_far.near;
      releases = list_any_more (is_latest_release moment) above i one within
          ∙ first_true (list_any (is_latest_release moment) (take i above)) (is_latest_release moment (get_or above i one))
          (subst (λ m. list_any (is_latest_release m) (take i above) ≡ true) (sym same) so_far.releases);
      none_between = none_before_both;
    }

    last_new : moment ≡ release → IsLastAmong (take (i + 1) above) start moment
    last_new same = record {
      before = subst (λ m. (m +ℤ pos 1) ≤ℤ start) (sym same) of.before;
      near = subst (λ m. start ≤ℤ (m +ℤ pos (MOST_TICKS + 1))) (sym same) of.near;
      releases = list_any_more (is_latest_release moment) above i one within
          ∙ either_true (list_any (is_latest_release moment) (take i above)) (is_latest_release moment (get_or above i one))
          (subst (λ m. is_latest_release m (get_or above i one) ≡ true) (sym same) of.releases);
      none_between = none_before_both;
    }

  -- the last so far and this one's
  pub last_more : (last : Option ℤ) (moment : ℤ) → MatchOption last (i ≡ 0) (IsLastAmong (take i above) start)
      → MatchOption last (moment ≡ release) (λ found. IsLaterOf found release moment) → IsLastAmong (take (i + 1) above) start moment
  last_more None moment so_far later = subst (IsLastAmong (take (i + 1) above) start) (sym later) (last_first so_far)
  last_more (Some found) moment so_far later = elim later.one [
    | inl same ↦ last_kept found moment so_far later.not_first later.not_second same
    | inr same ↦ last_new found moment so_far later.not_first later.not_second same
  ]
