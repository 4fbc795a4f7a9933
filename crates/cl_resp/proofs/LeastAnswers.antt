-- The least response: one suffices where each arrival is answered within it, and what is found is
-- the least that does.
use Rattle.std.proofs.Common.{◌≡◌, ℕ, ◌+◌, ◌-◌, ◌<◌, ◌≤◌, ◌⊎◌, inl, inr, Bool, true, false, nat_le, Option, Some, None, ℤ, pos, negsuc, ◌+ℤ◌, ◌-ℤ◌, ◌≤ℤ◌, unsigned_abs, get_or, refl, sym, ap, ◌∙◌, subst, arith}
use Rattle.std.specs.List.{range_with_len}
use Rattle.std.proofs.lemmas.Bool.{cases_lt, leb-true, le-leb, true≢false}
use Rattle.std.proofs.lemmas.Int.{ints}
use Rattle.std.proofs.lemmas.List.FromFn.{get_or-range_with_len, length-range_with_len}
use Rattle.cl_runs.proofs.FirstFound.{first_found, none_passes}
use Rattle.cl_stim.specs.Phase.{IsPhase, last_arrival, arrives_at}
use Rattle.cl_stim.proofs.{ArrivalTests.{arrives_from_test, test_from_arrival}, PhaseSteps.last_before}
use Rattle.cl_resp.specs.Asked.{Asked, holds_within, beginnings_of, is_answered, suffices, least_response, EndsBy, AnswersWithin, IsLeastResponse, AskedComesRound}
use Rattle.cl_resp.proofs.{LeastRanges.{each_passes, all_pass, one_passes, some_passes, each_of_them_passes, all_of_them_pass}, LeastMoved.{Answered, all_answered}}

-- ---- numbers about an arrival, how long ago the one before it was, and where a window begins

abs_is : (z : ℤ) → pos 0 ≤ℤ z → pos (unsigned_abs z) ≡ z
abs_is (pos n) some = refl
abs_is (negsuc n) some = absurd (omega (arith, ints, some))

module _ (arrival last : ℤ) (jitter : ℕ) where
  since : last ≤ℤ (arrival -ℤ pos 1) → pos 0 ≤ℤ (arrival -ℤ last)
  since before = omega (arith, ints, before)

  earlier_some : (start : ℤ) → start ≤ℤ (arrival +ℤ pos jitter) → pos 0 ≤ℤ ((arrival +ℤ pos jitter) -ℤ start)
  earlier_some start by = omega (arith, ints, by)

  begins_at : (start : ℤ) (earlier : ℕ) → pos earlier ≡ ((arrival +ℤ pos jitter) -ℤ start) → ((arrival +ℤ pos jitter) -ℤ pos earlier) ≡ start
  begins_at start earlier is = omega (arith, ints, is)

  module _ (ago earlier : ℕ) (start : ℤ) (is_ago : pos ago ≡ (arrival -ℤ last)) (begins : ((arrival +ℤ pos jitter) -ℤ pos earlier) ≡ start) where
    counted : (last +ℤ pos 1) ≤ℤ start → earlier < jitter + ago
    counted after = omega (arith, ints, is_ago, begins, after)

    after_last : earlier < jitter + ago → (last +ℤ pos 1) ≤ℤ start
    after_last below = omega (arith, ints, is_ago, begins, below)

    by_release : start ≤ℤ (arrival +ℤ pos jitter)
    by_release = omega (arith, ints, begins)

    ends_by : (response width : ℕ) → 1 ≤ width → width < 1 + (response + earlier - jitter) → (start +ℤ pos width) ≤ℤ (arrival +ℤ pos response)
    ends_by response width some below =
        let room : width + jitter ≤ response + earlier = omega (arith, some, below) in
        omega (arith, ints, begins, room)

    room_for : (response width : ℕ) → (start +ℤ pos width) ≤ℤ (arrival +ℤ pos response) → width < 1 + (response + earlier - jitter)
    room_for response width ends =
        let room : width + jitter ≤ response + earlier = omega (arith, ints, begins, ends) in
        omega (arith, room)

below_sum : (n m : ℕ) → n < m → n < 0 + m
below_sum n m below = omega (arith, below)

below_part : (n m : ℕ) → n < 0 + m → n < m
below_part n m below = omega (arith, below)

-- ---- one arrival

module _ (asked : Asked) (phase : IsPhase asked.arrivals) (response : ℕ) (arrival : ℤ) where
  last : ℤ
  last = last_arrival asked.arrivals (arrival -ℤ pos 1)

  ago : ℕ
  ago = unsigned_abs (arrival -ℤ last_arrival asked.arrivals (arrival -ℤ pos 1))

  is_ago : pos ago ≡ (arrival -ℤ last)
  unfolding last ago
  is_ago = abs_is (arrival -ℤ last_arrival asked.arrivals (arrival -ℤ pos 1))
      (since arrival (last_arrival asked.arrivals (arrival -ℤ pos 1)) 0 (last_before asked.arrivals phase (arrival -ℤ pos 1)))

  -- a window that is found ends in time
  found_ends : (earlier : ℕ) (start : ℤ) → ((arrival +ℤ pos asked.jitter) -ℤ pos earlier) ≡ start
      → holds_within asked start ((response + earlier) - asked.jitter) ≡ true → EndsBy asked start (arrival +ℤ pos response)
  found_ends earlier start begins holds =
      let (width, some, below, passes) = one_passes (λ w. nat_le (asked.demand start w) w) 1 ((response + earlier) - asked.jitter) holds in
      record {
        width = width;
        some = some;
        by = ends_by arrival last asked.jitter ago earlier start is_ago begins response width some below;
        enough = leb-true (asked.demand start width) width passes;
      }

  -- and the converse
  ends_found : (earlier : ℕ) (start : ℤ) → ((arrival +ℤ pos asked.jitter) -ℤ pos earlier) ≡ start
      → EndsBy asked start (arrival +ℤ pos response) → holds_within asked start ((response + earlier) - asked.jitter) ≡ true
  ends_found earlier start begins ends =
      some_passes (λ w. nat_le (asked.demand start w) w) 1 ((response + earlier) - asked.jitter) ends.width ends.some
      (room_for arrival last asked.jitter ago earlier start is_ago begins response ends.width ends.by)
      (le-leb (asked.demand start ends.width) ends.width ends.enough)

  abbrev holds_from : (earlier : ℕ) → Bool
  holds_from earlier = holds_within asked ((arrival +ℤ pos asked.jitter) -ℤ pos earlier) ((response + earlier) - asked.jitter)

  -- the test of one arrival says that it is answered
  answered_from_test : is_answered asked response arrival ≡ true → Answered asked response arrival
  unfolding last ago
  answered_from_test passes start begins =
      let earlier = unsigned_abs ((arrival +ℤ pos asked.jitter) -ℤ start) in
      let at : ((arrival +ℤ pos asked.jitter) -ℤ pos (unsigned_abs ((arrival +ℤ pos asked.jitter) -ℤ start))) ≡ start
      = begins_at arrival last asked.jitter start earlier
      (abs_is ((arrival +ℤ pos asked.jitter) -ℤ start) (earlier_some arrival last asked.jitter start begins.by)) in
      let below : earlier < asked.jitter + ago = counted arrival last asked.jitter ago earlier start is_ago at begins.after in
      found_ends earlier start at
      (subst (λ z. holds_within asked z ((response + earlier) - asked.jitter) ≡ true) at
      (each_passes holds_from 0 (beginnings_of asked arrival) passes earlier (omega arith) (below_sum earlier (beginnings_of asked arrival) below)))

  -- and the converse
  test_from_answered : Answered asked response arrival → is_answered asked response arrival ≡ true
  unfolding last ago
  test_from_answered answered = all_pass holds_from 0 (beginnings_of asked arrival) (λ earlier _ below.
      let start = (arrival +ℤ pos asked.jitter) -ℤ pos earlier in
      ends_found earlier start refl (answered start (record {
        after = after_last arrival last asked.jitter ago earlier start is_ago refl (below_part earlier (beginnings_of asked arrival) below);
        by = by_release arrival last asked.jitter ago earlier start is_ago refl;
      })))

-- ---- all arrivals

module _ (asked : Asked) (comes : AskedComesRound asked) (response : ℕ) where
  -- where a response suffices, all arrivals are answered within it
  pub answers_from_test : suffices asked response ≡ true → AnswersWithin asked response
  unfolding suffices
  answers_from_test passes = all_answered asked comes response (λ moment below arrives.
      answered_from_test asked comes.phase response (pos moment)
      (each_of_them_passes (λ m. is_answered asked response (pos m)) (λ m. arrives_at asked.arrivals (pos m)) 0 asked.cycle passes
      moment (omega arith) (omega (arith, below)) (test_from_arrival asked.arrivals comes.phase (pos moment) arrives)))

  -- and the converse
  pub test_from_answers : AnswersWithin asked response → suffices asked response ≡ true
  unfolding suffices
  test_from_answers answers =
      all_of_them_pass (λ m. is_answered asked response (pos m)) (λ m. arrives_at asked.arrivals (pos m)) 0 asked.cycle
      (λ moment _ _ arrives. test_from_answered asked comes.phase response (pos moment)
      (λ start begins. answers (pos moment) start (arrives_from_test asked.arrivals comes.phase (pos moment) arrives) begins))

-- what is answered within a response is within a later one
pub answers_later : (asked : Asked) (response later : ℕ) → response ≤ later → AnswersWithin asked response → AnswersWithin asked later
answers_later asked response later le answers arrival start arrives begins =
    let ends = answers arrival start arrives begins in
    record {
      width = ends.width;
      some = ends.some;
      by = until arrival (start +ℤ pos ends.width) ends.by;
      enough = ends.enough;
    }
  where
    until : (arrival end : ℤ) → end ≤ℤ (arrival +ℤ pos response) → end ≤ℤ (arrival +ℤ pos later)
    until arrival end by = omega (arith, ints, by, le)

-- ---- the least

module _ (asked : Asked) (comes : AskedComesRound asked) where
  fails_at : (response place : ℕ) → 1 + place ≡ response → place < asked.deadline
      → suffices asked (get_or (range_with_len 1 asked.deadline) place 0) ≡ false → suffices asked response ≡ false
  fails_at response place is within fails =
      subst (λ n. suffices asked n ≡ false) (get_or-range_with_len 1 asked.deadline place 0 within ∙ is) fails

  -- what fails the test doesn't answer all
  no_answer : {P : Type 0} (response : ℕ) → suffices asked response ≡ false → AnswersWithin asked response → P
  no_answer response fails answers = absurd (true≢false (sym (test_from_answers asked comes response answers) ∙ fails))

  -- what is found is the least
  pub found_is_least : (response : ℕ) → least_response asked ≡ Some response → IsLeastResponse asked response
  unfolding least_response
  found_is_least response is =
      let found = first_found (λ n. suffices asked n) (range_with_len 1 asked.deadline) response is in
      let within : found.place < asked.deadline = omega (arith, found.within, length-range_with_len 1 asked.deadline) in
      let at : 1 + found.place ≡ response = sym (get_or-range_with_len 1 asked.deadline found.place 0 within) ∙ found.is 0 in
      record {
        some = omega (arith, at);
        by_deadline = omega (arith, at, within);
        answers = answers_from_test asked comes response found.passes;
        least = λ lesser some answers. elim (cases_lt lesser response) [
          | inl below ↦
              let fails = fails_at lesser (lesser - 1) (omega (arith, some)) (omega (arith, at, within, below))
              (found.fails_before (lesser - 1) 0 (omega (arith, at, some, below))) in
              no_answer lesser fails answers
          | inr above ↦ above
        ];
      }

  -- where none is found, none up to the deadline answers all
  pub none_answers : {P : Type 0} → least_response asked ≡ None → (response : ℕ) → 1 ≤ response → response ≤ asked.deadline → AnswersWithin asked response → P
  unfolding least_response
  none_answers none response some within answers =
      let inside : response - 1 < asked.deadline = omega (arith, some, within) in
      no_answer response (fails_at response (response - 1) (omega (arith, some)) inside
      (none_passes (λ n. suffices asked n) (range_with_len 1 asked.deadline) none (response - 1) 0 (omega (arith, inside, length-range_with_len 1 asked.deadline)))) answers

  some_or_none : (least_response asked ≡ None) ⊎ ((response : ℕ) × (least_response asked ≡ Some response))
  some_or_none = go (least_response asked) refl
    where
      go : (found : Option ℕ) → least_response asked ≡ found → (least_response asked ≡ None) ⊎ ((response : ℕ) × (least_response asked ≡ Some response))
      go None is = inl is
      go (Some response) is = inr (response, is)

  -- where all are answered by the deadline, a response is found, and no later one
  pub finds_some : (response : ℕ) → 1 ≤ response → response ≤ asked.deadline → AnswersWithin asked response
      → (found : ℕ) × (least_response asked ≡ Some found) × (found ≤ response)
  finds_some response some within answers = elim some_or_none [
    | inl none ↦ none_answers none response some within answers
    | inr found ↦ (found.0, found.1, (found_is_least found.0 found.1).least response some answers)
  ]

  -- the least is found
  pub least_is_found : (response : ℕ) → IsLeastResponse asked response → least_response asked ≡ Some response
  least_is_found response least =
      let (found, is, by) = finds_some response least.some least.by_deadline least.answers in
      let other = found_is_least found is in
      let same : found ≡ response = omega (arith, by, least.least found other.some other.answers) in
      is ∙ ap (λ n. Some n) same
