-- The search through the beginnings of one arrival, and through the arrivals of a cycle.
use Rattle.std.proofs.Common.{◌≡◌, ℕ, zero, suc, ◌+◌, ◌-◌, ◌*◌, ◌<◌, ◌≤◌, ◌⊎◌, inl, inr, true, false, ℤ, pos, negsuc, ◌+ℤ◌, ◌-ℤ◌, ◌≤ℤ◌, ◌<ℤ◌, refl, sym, ap, ◌∙◌, subst, arith, max, to_z, of_z, w64}
use Rattle.std.specs.Prelude.{Option, Some, None, IfSome, unwrap_or, unsigned_abs}
use Rattle.std.specs.Option.{IsSomeAnd}
use Rattle.std.specs.Int.{◌∣◌, int_max}
use Rattle.std.specs.Int.Signed.{lt_z}
use Rattle.std.proofs.lemmas.Bool.{true≢false}
use Rattle.std.proofs.lemmas.Int.{ints, clamps, by_lt_z}
use Rattle.std.proofs.lemmas.Nat.Gcd.{le_of_dvd}
use Rattle.cl_model.specs.declared.limits.TheConstants.{MOST_TICKS}
use Rattle.cl_stim.specs.Phase.{IsPhase, IsArrivalOf, first_arrival, last_arrival, arrives_at}
use Rattle.cl_stim.proofs.{ArrivalTests.{arrives_from_test, test_from_arrival}, PhaseSteps.{first_arrives, first_after, first_before, first_within, last_before}}
use Rattle.cl_resp.specs.{declared.phased.PhasedQuestion.PhasedQuestion, Asked.{Asked, holds_within, is_answered, suffices, least_response, MayBegin, EndsBy}, Inner.{Phased.{asked_of, IsPhasedInRange, IsLeastFrom, ServesAnywhere}, Searching.{IsLeastSoFar, NoneSuffices, AnsweredAfter}}}
use Rattle.cl_resp.specs.Inner.Searching.{AnsweredBefore, NoneReleased, IsAfter}
use Rattle.cl_resp.proofs.{Windows.demand_some, SearchedStarts.{ends_later, holds_by, none_ends_before, least_ends, answered_at, answered_from, unanswered, suffices_from, fails_at, reached_is_least}, SearchedReleases.{ends_a_tick_earlier, holds_back, after_last}}

module _ (asked : Asked) (is : IsPhase asked.arrivals) where
  -- ---- what one arrival shows

  -- where one isn't answered, the response doesn't suffice
  pub fails_there : (response : ℕ) (arrival : ℤ) → pos 0 ≤ℤ arrival → arrival <ℤ pos asked.cycle → arrives_at asked.arrivals arrival ≡ true
      → is_answered asked response arrival ≡ false → suffices asked response ≡ false
  fails_there response (pos moment) after before arrives fails = fails_at asked response moment (omega (arith, ints, before)) arrives fails
  fails_there response (negsuc lacking) after before arrives fails = absurd (omega (arith, ints, after))

  module _ (arrival : ℤ) (after : pos 0 ≤ℤ arrival) (before : arrival <ℤ pos asked.cycle) (arrives : arrives_at asked.arrivals arrival ≡ true)
      (start : ℤ) (may : MayBegin asked arrival start) where
    -- no response suffices that is less than the least window leaves
    pub reached_more : (longest longer width : ℕ) → IsLeastSoFar asked longest → IsLeastFrom asked start width
        → (start +ℤ pos width) ≤ℤ (arrival +ℤ pos asked.deadline)
        → (longer ≡ longest) ⊎ ((start +ℤ pos width) ≡ (arrival +ℤ pos longer)) → IsLeastSoFar asked longer
    reached_more longest longer width reached window by_deadline (inl same) = record {
      by_deadline = omega (arith, same, reached.by_deadline);
      least = λ lesser below. reached.least lesser (omega (arith, same, below));
    }
    reached_more longest longer width reached window by_deadline (inr ends) = record {
      by_deadline = omega (arith, ints, ends, by_deadline);
      least = λ lesser below. fails_there lesser arrival after before arrives
          (unanswered asked is arrival lesser start may (λ so. never lesser below (none_ends_before asked start (arrival +ℤ pos lesser) width window so)));
    }
      where
        never : (lesser : ℕ) → lesser < longer → (start +ℤ pos width) ≤ℤ (arrival +ℤ pos lesser) → ⊥
        never lesser below by = omega (arith, ints, ends, below, by)

    -- and none at all where no window ends by the deadline
    pub none_suffices : (most : ℕ) → (arrival +ℤ pos asked.deadline) ≤ℤ (start +ℤ pos most) → holds_within asked start most ≡ false → NoneSuffices asked
    none_suffices most far none response by_deadline = fails_there response arrival after before arrives
        (unanswered asked is arrival response start may
        (λ so. true≢false (sym (holds_by asked start (arrival +ℤ pos response) most (omega (arith, ints, far, by_deadline)) so) ∙ none)))

  -- ---- answers within a longer response

  pub answered_longer : (longest longer : ℕ) (arrival : ℤ) → longest ≤ longer → is_answered asked longest arrival ≡ true → is_answered asked longer arrival ≡ true
  answered_longer longest longer arrival more answered = answered_from asked is arrival longer
      (λ start may. ends_later asked start (arrival +ℤ pos longest) (arrival +ℤ pos longer) (omega (arith, ints, more)) (answered_at asked is arrival longest answered start may))

  -- what begins at the first tick after the arrival before is answered
  pub answered_all_down : (response : ℕ) (arrival start : ℤ) → start ≤ℤ last_arrival asked.arrivals (arrival -ℤ pos 1)
      → AnsweredAfter asked response arrival start → is_answered asked response arrival ≡ true
  answered_all_down response arrival start down answered =
      answered_from asked is arrival response (λ begin may. answered begin (omega (arith, ints, down, may.after)) may)

  -- ---- one arrival after the other

  -- none arrives between a moment and the first arrival from it on
  first_is_next : (from arrival : ℤ) (moment : ℕ) → arrival ≡ first_arrival asked.arrivals from → from ≤ℤ pos moment → pos moment <ℤ arrival
      → arrives_at asked.arrivals (pos moment) ≡ true → ⊥
  first_is_next from arrival moment first after before arrives =
      let no_later = first_before asked.arrivals is from (pos moment) (arrives_from_test asked.arrivals is (pos moment) arrives) after in
      omega (arith, ints, no_later, first, before)

  -- and a job arrives there
  pub first_passes : (from arrival : ℤ) → arrival ≡ first_arrival asked.arrivals from → arrives_at asked.arrivals arrival ≡ true
  first_passes from arrival first =
      test_from_arrival asked.arrivals is arrival (subst (IsArrivalOf asked.arrivals) (sym first) (first_arrives asked.arrivals is from))

  -- none arrives before the first arrival
  pub none_answered : (response : ℕ) (arrival : ℤ) → arrival ≡ first_arrival asked.arrivals (pos 0) → AnsweredBefore asked response arrival
  none_answered response arrival first moment before arrives = absurd (first_is_next (pos 0) arrival moment first (omega (arith, ints)) before arrives)

  -- at the next arrival the one before it is answered too
  pub one_more_answered : (longest longer : ℕ) (arrival next : ℤ) → longest ≤ longer → AnsweredBefore asked longest arrival
      → is_answered asked longer arrival ≡ true → next ≡ first_arrival asked.arrivals (arrival +ℤ pos 1) → AnsweredBefore asked longer next
  one_more_answered longest longer arrival next more answered here first moment before arrives =
      by_lt_z (pos moment) arrival
      (λ earlier. answered_longer longest longer (pos moment) more (answered moment earlier arrives))
      (λ there. by_lt_z arrival (pos moment)
      (λ later. absurd (first_is_next (arrival +ℤ pos 1) next moment first (omega (arith, ints, later)) before arrives))
      (λ back. subst (λ a. is_answered asked longer a ≡ true) (same arrival (pos moment) there back) here))
    where
      same : (a b : ℤ) → a ≤ℤ b → b ≤ℤ a → a ≡ b
      same a b le ge = omega (arith, ints, le, ge)

  -- past the cycle all are
  pub all_answered : (response : ℕ) (end : ℤ) → pos asked.cycle ≤ℤ end → AnsweredBefore asked response end → suffices asked response ≡ true
  all_answered response end past answered =
      suffices_from asked response (λ moment within arrives. answered moment (omega (arith, ints, within, past)) arrives)

  -- ---- a cycle has an arrival

  module _ (round : asked.arrivals.period ∣ asked.cycle) (some : 1 ≤ asked.cycle) where
    abbrev first : ℤ
    first = first_arrival asked.arrivals (pos 0)

    -- its first
    first_there : pos 0 ≤ℤ first
    first_there = first_after asked.arrivals is (pos 0)

    -- that comes before the cycle ends
    first_in_cycle : first <ℤ pos asked.cycle
    first_in_cycle =
        let short : asked.arrivals.period ≤ asked.cycle = le_of_dvd some round in
        near first asked.arrivals.period asked.cycle ((asked.arrivals.count - 1) * asked.arrivals.distance) some short (first_within asked.arrivals is (pos 0))
      where
        near : (first : ℤ) (period cycle last : ℕ) → 1 ≤ cycle → period ≤ cycle → first ≤ℤ (pos 0 +ℤ (pos (period - last) -ℤ pos 1)) → first <ℤ pos cycle
        near first period cycle last some short within = omega (arith, ints, some, short, within)

    -- its window may begin at its latest release
    latest_begins : MayBegin asked first (first +ℤ pos asked.jitter)
    latest_begins = record {
      after = omega (arith, ints, last_before asked.arrivals is (first -ℤ pos 1));
      by = omega (arith, ints);
    }

    -- no response is less than a tick
    pub some_response : (response : ℕ) → suffices asked response ≡ true → 1 ≤ response
    some_response zero enough = absurd (true≢false (sym enough ∙ fails_there 0 first first_there first_in_cycle (first_passes (pos 0) first refl)
        (unanswered asked is first 0 (first +ℤ pos asked.jitter) latest_begins (λ ends. never first asked.jitter ends.width ends.some ends.by))))
      where
        never : (first : ℤ) (jitter width : ℕ) → 1 ≤ width → ((first +ℤ pos jitter) +ℤ pos width) ≤ℤ (first +ℤ pos 0) → ⊥
        never first jitter width some by = omega (arith, ints, some, by)
    some_response (suc response) enough = omega arith

    -- a response that suffices is the least where no lesser one does
    pub suffices_first : (response : ℕ) → IsLeastSoFar asked response → suffices asked response ≡ true → least_response asked ≡ Some response
    suffices_first response reached enough = reached_is_least asked response (some_response response enough) reached enough

    -- where no window holds even what the tasks that aren't in phase ask, no response suffices
    pub late_beside : ((start : ℤ) (width : ℕ) → 1 ≤ width → width ≤ asked.deadline - asked.jitter → width < asked.demand start width) → NoneSuffices asked
    late_beside short response by_deadline = fails_there response first first_there first_in_cycle (first_passes (pos 0) first refl)
        (unanswered asked is first response (first +ℤ pos asked.jitter) latest_begins (λ ends.
        let within : ends.width ≤ asked.deadline - asked.jitter = narrow first asked.jitter ends.width response asked.deadline by_deadline ends.by in
        let less = short (first +ℤ pos asked.jitter) ends.width ends.some within in
        omega (arith, less, ends.enough)))
      where
        narrow : (first : ℤ) (jitter width response deadline : ℕ) → response ≤ deadline → ((first +ℤ pos jitter) +ℤ pos width) ≤ℤ (first +ℤ pos response)
            → width ≤ deadline - jitter
        narrow first jitter width response deadline by_deadline by = omega (arith, ints, by_deadline, by)

-- at first no response is known to be too short
pub none_reached : (asked : Asked) → IsLeastSoFar asked 0
none_reached asked = record {
  by_deadline = omega arith;
  least = λ lesser below. absurd (omega (arith, below));
}

-- ---- one beginning after the other

module _ (question : PhasedQuestion) (arrival : ℤ) where
  -- the search before its first beginning
  pub none_begun : (response : ℕ) (start : ℤ) → (arrival +ℤ pos question.beside.jitter) ≤ℤ start → AnsweredAfter (asked_of question) response arrival start
  none_begun response start latest begin after may = absurd (omega (arith, ints, latest, after, may.by))

  -- at its next
  pub answered_further : (longest longer width : ℕ) (start next before : ℤ) (last : Option ℤ)
      → AnsweredAfter (asked_of question) longest arrival start → IsLeastFrom (asked_of question) start width
      → longest ≤ longer → (start +ℤ pos width) ≤ℤ (arrival +ℤ pos longer)
      → next ≡ unwrap_or last before → ((moment : ℤ) → IsAfter last moment → moment <ℤ start → NoneReleased question moment)
      → AnsweredAfter (asked_of question) longer arrival next
  answered_further longest longer width start next before last answered window more enough is none begin after may =
      by_lt_z start begin
      (λ later. ends_later (asked_of question) begin (arrival +ℤ pos longest) (arrival +ℤ pos longer) (omega (arith, ints, more)) (answered begin later may))
      (λ earlier. holds_back question (λ moment. EndsBy (asked_of question) moment (arrival +ℤ pos longer)) last start none
      (λ moment free ends. ends_a_tick_earlier question moment (arrival +ℤ pos longer) free
      (ends_later (asked_of question) (moment +ℤ pos 1) (arrival +ℤ pos longer) ((arrival +ℤ pos longer) +ℤ pos 1) (omega (arith, ints)) ends))
      (ends_later (asked_of question) start (start +ℤ pos width) (arrival +ℤ pos longer) enough (least_ends (asked_of question) start width window))
      begin (after_last last before begin (subst (λ z. z <ℤ begin) is after)) earlier)

  -- ---- what the widest window leaves

  -- it ends in time wherever it begins early enough
  serves_from : (width : ℕ) → 1 ≤ question.beside.time → ServesAnywhere (asked_of question) width → (start latest : ℤ) → (start +ℤ pos width) ≤ℤ latest
      → EndsBy (asked_of question) start latest
  serves_from width some serves start latest by =
      let enough = serves start in
      record {
        width = width;
        some = omega (arith, some, demand_some question.beside width, enough);
        by = by;
        enough = enough;
      }

  -- all further beginnings are answered by it
  pub answered_by_widest : (widest : Option ℕ) → 1 ≤ question.beside.time → IfSome widest (ServesAnywhere (asked_of question)) → (longest : ℕ) (start after : ℤ)
      → IsSomeAnd widest (λ width. (start +ℤ pos width) ≤ℤ (arrival +ℤ pos longest))
      → AnsweredAfter (asked_of question) longest arrival start → AnsweredAfter (asked_of question) longest arrival after
  answered_by_widest None some serves longest start after by answered begin later may = elim by [ ]
  answered_by_widest (Some width) some serves longest start after by answered begin later may =
      by_lt_z start begin
      (λ beyond. answered begin beyond may)
      (λ before. serves_from width some serves begin (arrival +ℤ pos longest) (omega (arith, ints, by, before)))

  -- and all are within the jitter and the widest window
  pub answered_widest : (width : ℕ) → IsPhase question.arrivals → 1 ≤ question.beside.time → ServesAnywhere (asked_of question) width → (longest : ℕ)
      → longest ≡ question.beside.jitter + width → is_answered (asked_of question) longest arrival ≡ true
  answered_widest width is some serves longest all = answered_from (asked_of question) is arrival longest
      (λ start may. serves_from width some serves start (arrival +ℤ pos longest) (omega (arith, ints, all, may.by)))

-- ---- what 64 signed bits hold

-- a number as code holds it
abbrev pub passed : ℤ → ℤ
passed z = to_z w64 (of_z w64 z)

-- a beginning of an arrival lies near it, and both near 0
pub record IsNear (question : PhasedQuestion) (arrival start : ℤ) : Type 0 where
  pub jitter : question.beside.jitter < question.beside.deadline
  pub deadline : question.beside.deadline ≤ 1000000000000
  pub there : pos 0 ≤ℤ arrival
  pub before : arrival ≤ℤ pos 10000000000000000
  pub after : (arrival -ℤ pos 1000000000000) ≤ℤ start
  pub by : start ≤ℤ (arrival +ℤ pos question.beside.jitter)

module _ (question : PhasedQuestion) (range : IsPhasedInRange question) (arrival : ℤ) (there : (pos 0 ≤ℤ arrival) × (arrival <ℤ pos question.cycle)) where
  -- an arrival of the cycle is held
  pub passed_arrival : passed arrival ≡ arrival
  passed_arrival = omega (arith, ints, there, range.short)

  -- and so is the tick before it
  pub passed_before : passed (passed arrival -ℤ pos 1) ≡ (passed arrival -ℤ pos 1)
  passed_before = omega (arith, ints, there, range.short)

  module _ (start before : ℤ) (not_after : before ≤ℤ passed (passed arrival -ℤ pos 1)) (near : (passed (passed arrival -ℤ pos 1) -ℤ pos MOST_TICKS) ≤ℤ before)
      (after : lt_z (passed before) start ≡ true) (by : start ≤ℤ (passed arrival +ℤ pos question.beside.jitter)) where
    -- a start that the code finds after the arrival before is
    is_after : before <ℤ start
    is_after = omega (arith, ints, there, range.short, near, not_after, after)

    -- it lies near the arrival
    pub near_it : IsNear question arrival start
    near_it = record {
      jitter = range.beside.released_before;
      deadline = range.beside.deadline;
      there = there.0;
      before = omega (arith, ints, there.1, range.short);
      after = omega (arith, ints, passed_before, passed_arrival, near, is_after);
      by = omega (arith, ints, passed_arrival, by);
    }

    -- and the window of a job may begin there
    pub begins_there : before ≡ last_arrival question.arrivals (passed (passed arrival -ℤ pos 1)) → MayBegin (asked_of question) arrival start
    begins_there is =
        let one : passed (passed arrival -ℤ pos 1) ≡ (arrival -ℤ pos 1) = omega (arith, ints, passed_before, passed_arrival) in
        let last : before ≡ last_arrival question.arrivals (arrival -ℤ pos 1) = is ∙ ap (last_arrival question.arrivals) one in
        record {
          after = omega (arith, ints, last, is_after);
          by = omega (arith, ints, passed_arrival, by);
        }

-- a window of at most the ticks from there to the deadline of the arrival ends near it
pub record EndsNear (question : PhasedQuestion) (arrival start : ℤ) (width : ℕ) : Type 0 where
  pub by_deadline : (start +ℤ pos width) ≤ℤ (arrival +ℤ pos question.beside.deadline)
  pub left : passed (passed (start +ℤ to_z w64 width) -ℤ passed arrival) ≡ ((start +ℤ pos width) -ℤ arrival)
  pub sum : passed (start +ℤ to_z w64 width) ≡ (start +ℤ pos width)
  pub same : passed arrival ≡ arrival
  pub after : (arrival -ℤ pos 1000000000000) ≤ℤ (start +ℤ pos width)

-- the deadline of the arrival is held
latest_is : (arrival : ℤ) (deadline : ℕ) → pos 0 ≤ℤ arrival → arrival ≤ℤ pos 10000000000000000 → deadline ≤ 1000000000000
    → passed (passed arrival +ℤ to_z w64 deadline) ≡ (arrival +ℤ pos deadline)
latest_is arrival deadline there before small = omega (arith, ints, there, before, small)

-- the ticks up to it
left_is : (latest start : ℤ) → start ≤ℤ latest → (latest -ℤ pos 2000000000000) ≤ℤ start → pos (unsigned_abs (passed (latest -ℤ start))) ≡ (latest -ℤ start)
left_is latest start before near = omega (arith, ints, before, near)

-- the end of the window
sum_is : (start arrival : ℤ) (width deadline : ℕ) → pos 0 ≤ℤ arrival → arrival ≤ℤ pos 10000000000000000 → deadline ≤ 1000000000000
    → (arrival -ℤ pos 1000000000000) ≤ℤ start → (start +ℤ pos width) ≤ℤ (arrival +ℤ pos deadline) → passed (start +ℤ to_z w64 width) ≡ (start +ℤ pos width)
sum_is start arrival width deadline there before small near by = omega (arith, ints, there, before, small, near, by)

-- and the ticks from the arrival to it
rest_is : (end arrival : ℤ) → (arrival -ℤ pos 1000000000000) ≤ℤ end → end ≤ℤ (arrival +ℤ pos 1000000000000) → passed (end -ℤ arrival) ≡ (end -ℤ arrival)
rest_is end arrival after by = omega (arith, ints, after, by)

-- it does
pub ends_near : (question : PhasedQuestion) (arrival start : ℤ) (width : ℕ) → IsNear question arrival start
    → width ≤ unsigned_abs (passed (passed (passed arrival +ℤ to_z w64 question.beside.deadline) -ℤ start)) → EndsNear question arrival start width
ends_near question arrival start width near within =
    let deadline = question.beside.deadline in
    let latest = latest_is arrival deadline near.there near.before near.deadline in
    let most = subst (λ z. width ≤ unsigned_abs (passed (z -ℤ start))) latest within in
    let left = left_is (arrival +ℤ pos deadline) start (omega (arith, ints, near.by, near.jitter)) (omega (arith, ints, near.after, near.deadline)) in
    let by_deadline : (start +ℤ pos width) ≤ℤ (arrival +ℤ pos deadline) = omega (arith, ints, left, most) in
    let same : passed arrival ≡ arrival = omega (arith, ints, near.there, near.before) in
    let after : (arrival -ℤ pos 1000000000000) ≤ℤ (start +ℤ pos width) = omega (arith, ints, near.after) in
    let sum = sum_is start arrival width deadline near.there near.before near.deadline near.after by_deadline in
    record {
      by_deadline = by_deadline;
      left = ap (λ z. passed (z -ℤ passed arrival)) sum ∙ ap (λ z. passed ((start +ℤ pos width) -ℤ z)) same
          ∙ rest_is (start +ℤ pos width) arrival after (omega (arith, ints, by_deadline, near.deadline));
      sum = sum;
      same = same;
      after = after;
    }

-- the last release before a start, or another moment before it where there is none, comes before it
pub last_or_before : (last : Option ℤ) (other start : ℤ) → IfSome last (λ one. one <ℤ start) → other <ℤ start → unwrap_or last other <ℤ start
last_or_before None other start none before = before
last_or_before (Some one) other start earlier before = earlier

-- the longer of two responses is one of them, and that of a window if it is not the first
pub longer_or_same : (longest longer : ℕ) (found left : ℤ) → longer ≡ max longest (unsigned_abs found) → found ≡ int_max left (pos 0)
    → (longer ≡ longest) ⊎ (left ≡ pos longer)
longer_or_same longest longer found left is at_least = by_lt_z (pos longest) left
    (λ more. inr (omega (arith, ints, clamps, is, at_least, more)))
    (λ less. inl (omega (arith, ints, clamps, is, at_least, less)))

-- the longer is no less than that of the window
pub is_longer : (longest longer : ℕ) (found left : ℤ) → longer ≡ max longest (unsigned_abs found) → found ≡ int_max left (pos 0) → left ≤ℤ pos longer
is_longer longest longer found left is at_least = omega (arith, ints, clamps, is, at_least)

-- the window ends where its response does
pub ended : (start : ℤ) (width : ℕ) (arrival : ℤ) (longer : ℕ) (left : ℤ) → left ≡ ((start +ℤ pos width) -ℤ arrival) → left ≡ pos longer
    → (start +ℤ pos width) ≡ (arrival +ℤ pos longer)
ended start width arrival longer left is so = omega (arith, ints, is, so)

-- or before the longer one does
pub enough : (start : ℤ) (width : ℕ) (arrival given : ℤ) (longer : ℕ) (left : ℤ) → given ≡ arrival → left ≡ ((start +ℤ pos width) -ℤ arrival) → left ≤ℤ pos longer
    → (start +ℤ pos width) ≤ℤ (given +ℤ pos longer)
enough start width arrival given longer left same is so = omega (arith, ints, same, is, so)

-- how far a moment is after another
abbrev pub way_down : (from to : ℤ) → ℕ
way_down from to = unsigned_abs (int_max (from -ℤ to) (pos 0))

-- what is left of the way down to a moment falls
pub way_falls : (next start moment : ℤ) → next <ℤ start → moment <ℤ start → way_down next moment < way_down start moment
way_falls next start moment less below = omega (arith, ints, clamps, less, below)
