-- From which moments on a window ends in time: where a job of an arrival is answered, and where an arrival of a cycle
-- shows that a response doesn't suffice.
use Rattle.std.proofs.Common.{◌≡◌, ℕ, ◌+◌, ◌-◌, ◌<◌, ◌≤◌, inl, inr, Bool, true, false, ℤ, pos, negsuc, ◌+ℤ◌, ◌-ℤ◌, ◌≤ℤ◌, refl, ap, subst, arith}
use Rattle.std.specs.Prelude.{nat_le, unsigned_abs, Some, None}
use Rattle.std.proofs.lemmas.Bool.{cases_lt, leb-true, le-leb}
use Rattle.std.proofs.lemmas.Int.{ints}
use Rattle.cl_stim.specs.Phase.{IsPhase, last_arrival, arrives_at}
use Rattle.cl_stim.proofs.PhaseSteps.{last_before}
use Rattle.cl_resp.specs.{Asked.{Asked, holds_within, beginnings_of, is_answered, suffices, least_response, MayBegin, EndsBy}, Inner.{Phased.IsLeastFrom, Searching.{IsLeastSoFar, NoneSuffices}}}
use Rattle.cl_resp.proofs.SearchedLists.{all_pass, each_passes, one_passes, passing, first_is, first_is_none, all_among_pass, one_among_fails}

-- how long before a moment another is
pub record IsBack (latest start : ℤ) : Type 0 where
  pub ticks : ℕ
  pub is : (latest -ℤ start) ≡ pos ticks

-- any moment up to another is
pub back_to : (latest start : ℤ) → start ≤ℤ latest → IsBack latest start
back_to latest start before = by (latest -ℤ start) refl
  where
    by : (far : ℤ) → (latest -ℤ start) ≡ far → IsBack latest start
    by (pos ticks) is = record { ticks = ticks; is = is }
    by (negsuc lacking) is = absurd (omega (arith, ints, before, is))

module _ (asked : Asked) where
  -- ---- a window that ends by a moment

  -- it ends by a later moment too
  pub ends_later : (start latest later : ℤ) → latest ≤ℤ later → EndsBy asked start latest → EndsBy asked start later
  ends_later start latest later after ends = record {
    width = ends.width;
    some = ends.some;
    by = omega (arith, ints, after, ends.by);
    enough = ends.enough;
  }

  -- one of at most so many ticks ends by a moment that isn't nearer
  pub ends_by : (start latest : ℤ) (most : ℕ) → (1 ≤ most → (start +ℤ pos most) ≤ℤ latest) → holds_within asked start most ≡ true → EndsBy asked start latest
  ends_by start latest most near holds =
      let window = passing (λ width. nat_le (asked.demand start width) width) 1 most holds in
      let by = near (omega (arith, window.after, window.before)) in
      record {
        width = window.number;
        some = window.after;
        by = omega (arith, ints, by, window.before);
        enough = leb-true (asked.demand start window.number) window.number window.passes;
      }

  -- and one that ends by a moment has at most the ticks up to it
  pub holds_by : (start latest : ℤ) (most : ℕ) → latest ≤ℤ (start +ℤ pos most) → EndsBy asked start latest → holds_within asked start most ≡ true
  holds_by start latest most near ends =
      one_passes (λ width. nat_le (asked.demand start width) width) 1 most ends.width ends.some (omega (arith, ints, near, ends.by))
      (le-leb (asked.demand start ends.width) ends.width ends.enough)

  -- no window from a moment on ends before its least one does
  pub none_ends_before : (start latest : ℤ) (width : ℕ) → IsLeastFrom asked start width → EndsBy asked start latest → (start +ℤ pos width) ≤ℤ latest
  none_ends_before start latest width window ends = elim (cases_lt ends.width width) [
    | inl narrower ↦ absurd (omega (arith, window.least ends.width ends.some narrower, ends.enough))
    | inr wide ↦ omega (arith, ints, wide, ends.by)
  ]

  -- and its least one ends where it does
  pub least_ends : (start : ℤ) (width : ℕ) → IsLeastFrom asked start width → EndsBy asked start (start +ℤ pos width)
  least_ends start width window = record {
    width = width;
    some = window.some;
    by = omega (arith, ints);
    enough = window.enough;
  }

  -- ---- an arrival that is answered

  module _ (is : IsPhase asked.arrivals) (arrival : ℤ) where
    abbrev before : ℤ
    before = last_arrival asked.arrivals (arrival -ℤ pos 1)

    -- the arrival before it is at least a tick earlier
    before_it : before ≤ℤ (arrival -ℤ pos 1)
    before_it = last_before asked.arrivals is (arrival -ℤ pos 1)

    -- the number of the beginnings
    count_is : (far : IsBack arrival before) → beginnings_of asked arrival ≡ asked.jitter + far.ticks
    count_is far = ap (λ z. asked.jitter + unsigned_abs z) far.is

    -- where it is answered, a window ends in time from each of its beginnings
    pub answered_at : (response : ℕ) → is_answered asked response arrival ≡ true → (start : ℤ) → MayBegin asked arrival start
        → EndsBy asked start (arrival +ℤ pos response)
    answered_at response answered start may =
        let latest = arrival +ℤ pos asked.jitter in
        let far = back_to arrival before (omega (arith, ints, before_it)) in
        let earlier = back_to latest start may.by in
        let within : earlier.ticks < beginnings_of asked arrival = omega (arith, ints, count_is far, far.is, earlier.is, may.after) in
        let there : (latest -ℤ pos earlier.ticks) ≡ start = omega (arith, ints, earlier.is) in
        let holds = each_passes (λ back. holds_within asked (latest -ℤ pos back) ((response + back) - asked.jitter)) 0 (beginnings_of asked arrival)
        answered earlier.ticks (omega arith) (omega (arith, within)) in
        ends_by start (arrival +ℤ pos response) ((response + earlier.ticks) - asked.jitter)
        (λ some. omega (arith, ints, some, earlier.is))
        (subst (λ s. holds_within asked s ((response + earlier.ticks) - asked.jitter) ≡ true) there holds)

    -- and it is where one does from each
    pub answered_from : (response : ℕ) → ((start : ℤ) → MayBegin asked arrival start → EndsBy asked start (arrival +ℤ pos response))
        → is_answered asked response arrival ≡ true
    answered_from response ends =
        let latest = arrival +ℤ pos asked.jitter in
        let far = back_to arrival before (omega (arith, ints, before_it)) in
        all_pass (λ back. holds_within asked (latest -ℤ pos back) ((response + back) - asked.jitter)) 0 (beginnings_of asked arrival)
        (λ back after within.
        holds_by (latest -ℤ pos back) (arrival +ℤ pos response) ((response + back) - asked.jitter) (omega (arith, ints))
        (ends (latest -ℤ pos back) (record {
          after = omega (arith, ints, within, count_is far, far.is);
          by = omega (arith, ints);
        })))

    -- so it isn't where none does from one of them
    pub unanswered : (response : ℕ) (start : ℤ) → MayBegin asked arrival start → (EndsBy asked start (arrival +ℤ pos response) → ⊥)
        → is_answered asked response arrival ≡ false
    unanswered response start may never = by (is_answered asked response arrival) refl
      where
        by : (answered : Bool) → is_answered asked response arrival ≡ answered → is_answered asked response arrival ≡ false
        by true answered = absurd (never (answered_at response answered start may))
        by false not = not

  -- ---- a response that suffices

  -- it does where each arrival of a cycle is answered
  pub suffices_from : (response : ℕ)
      → ((moment : ℕ) → moment < asked.cycle → arrives_at asked.arrivals (pos moment) ≡ true → is_answered asked response (pos moment) ≡ true)
      → suffices asked response ≡ true
  unfolding suffices
  suffices_from response answered =
      all_among_pass (λ moment. arrives_at asked.arrivals (pos moment)) (λ moment. is_answered asked response (pos moment)) 0 asked.cycle
      (λ moment after before. answered moment (omega (arith, before)))

  -- and not where one isn't
  pub fails_at : (response moment : ℕ) → moment < asked.cycle → arrives_at asked.arrivals (pos moment) ≡ true
      → is_answered asked response (pos moment) ≡ false → suffices asked response ≡ false
  unfolding suffices
  fails_at response moment within arrives fails =
      one_among_fails (λ moment. arrives_at asked.arrivals (pos moment)) (λ moment. is_answered asked response (pos moment)) 0 asked.cycle
      moment (omega arith) (omega (arith, within)) arrives fails

  -- ---- the least one

  -- a response that suffices is the least where no lesser one does
  pub reached_is_least : (response : ℕ) → 1 ≤ response → IsLeastSoFar asked response → suffices asked response ≡ true → least_response asked ≡ Some response
  unfolding least_response
  reached_is_least response some reached enough =
      first_is (λ response. suffices asked response) 1 asked.deadline response some (omega (arith, reached.by_deadline)) enough
      (λ lesser after. reached.least lesser)

  -- there is none where no response up to the deadline suffices
  pub none_is_least : NoneSuffices asked → least_response asked ≡ None
  unfolding least_response
  none_is_least none =
      first_is_none (λ response. suffices asked response) 1 asked.deadline (λ response after before. none response (omega (arith, before)))
