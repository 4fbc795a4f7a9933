-- Where the candidates of a task without fixed arrivals are answered, all moments are.
use Rattle.std.proofs.Common.{◌≡◌, ℕ, zero, suc, ◌+◌, ◌-◌, ◌*◌, ◌/◌, ◌%◌, ◌<◌, ◌≤◌, Bool, true, false, ◌&&◌, ◌||◌, ℤ, pos, negsuc, ◌+ℤ◌, ◌-ℤ◌, ◌≤ℤ◌, ◌<ℤ◌, List, [], ◌∷◌, refl, sym, ap, ◌∙◌, subst, arith}
use Rattle.std.specs.Prelude.{All}
use Rattle.std.specs.Int.{◌∣◌}
use Rattle.std.specs.List.{list_any}
use Rattle.std.proofs.Math.Nat.{dvd-mul_left_of_dvd, mul-le-mul_right}
use Rattle.std.proofs.lemmas.Bool.{true≢false}
use Rattle.std.proofs.lemmas.Int.{ints}
use Rattle.std.proofs.lemmas.List.Elements.{All-head, All-tail, All-nil, All-cons}
use Rattle.std.proofs.lemmas.Nat.{div-add-mod', mod_below}
use Rattle.cl_stim.specs.Phase.{IsPhase, IsArrivalOf, first_arrival, arrives_at}
use Rattle.cl_stim.proofs.{ArrivalTests.{arrives_from_test, test_from_arrival}, PhaseSteps.{first_arrives, first_after}}
use Rattle.cl_resp.specs.{declared.phased.{InPhase.InPhase, PhasedQuestion.PhasedQuestion}, Asked.{suffices, EndsBy, AskedComesRound}, Worst.{lies_in, is_released_in, PassesOrZero}, Inner.{Phased.{asked_of, IsInPhaseInRange, IsPhasedInRange}, Releases.is_latest_release}}
use Rattle.cl_resp.specs.Inner.Worst.{IsCandidateOf, AreCandidatesAnswered}
use Rattle.cl_resp.proofs.{LeastMoved.{whole_cycles, arrives_later, arrives_earlier, ends_later as ends_moved, ends_earlier as ends_moved_back}, SearchedStarts.{back_to, ends_later}, SearchedReleases.ends_a_tick_earlier, SearchedMoments.moments_suffice, WorstCandidates.lies_there}
use Rattle.cl_resp.proofs.WorstCandidates.{follows_0}

-- ---- tests of a list

module _ {X : Type 0} (test : X → Bool) where
  -- one passes, so the list does
  one_passes : (list : List X) (start : ℤ) → list_any test list ≡ true → PassesOrZero test list start
  one_passes [] start is = absurd (true≢false (sym is))
  one_passes (first ∷ rest) start is = is

  -- where none passes, each fails
  each_fails : (list : List X) → list_any test list ≡ false → All (λ one. test one ≡ false) list
  each_fails [] is = All-nil (λ one. test one ≡ false)
  each_fails (first ∷ rest) is = All-cons (λ one. test one ≡ false) first rest (here (test first) is)
      (each_fails rest (there (test first) is))
    where
      here : (a : Bool) → (a || list_any test rest) ≡ false → a ≡ false
      here true is = is
      here false is = refl

      there : (a : Bool) → (a || list_any test rest) ≡ false → list_any test rest ≡ false
      there true is = absurd (true≢false is)
      there false is = is

or_true : (a b : Bool) → b ≡ true → (a || b) ≡ true
or_true true b is = refl
or_true false b is = is

module _ (question : PhasedQuestion) (comes : AskedComesRound (asked_of question)) (within : ℕ) where
  -- a window that begins at a moment ends within so many ticks
  abbrev Ends : ℤ → Type 0
  Ends moment = EndsBy (asked_of question) moment (moment +ℤ pos within)

  -- ---- whole cycles later and earlier

  same_way : (moment later : ℤ) (ticks : ℕ) → later ≡ (moment +ℤ pos ticks) → (later +ℤ pos within) ≡ ((moment +ℤ pos within) +ℤ pos ticks)
  same_way moment later ticks at = omega (arith, ints, at)

  moved : (cycles : ℕ) (moment later : ℤ) → later ≡ (moment +ℤ pos (cycles * question.cycle)) → Ends moment → Ends later
  moved cycles moment later at =
      ends_moved (asked_of question) comes.phase (cycles * question.cycle) (whole_cycles (asked_of question) comes cycles) moment later
      (moment +ℤ pos within) (later +ℤ pos within) at (same_way moment later (cycles * question.cycle) at)

  moved_back : (cycles : ℕ) (moment later : ℤ) → later ≡ (moment +ℤ pos (cycles * question.cycle)) → Ends later → Ends moment
  moved_back cycles moment later at =
      ends_moved_back (asked_of question) comes.phase (cycles * question.cycle) (whole_cycles (asked_of question) comes cycles) moment later
      (moment +ℤ pos within) (later +ℤ pos within) at (same_way moment later (cycles * question.cycle) at)

  -- ---- where a job is released at the latest

  abbrev in_cycle : ℤ → InPhase → Bool
  in_cycle start above = is_released_in question.cycle start above.phase above.jitter

  with_jitter : (moment later : ℤ) (ticks jitter : ℕ) → later ≡ (moment +ℤ pos ticks) → (later +ℤ pos jitter) ≡ ((moment +ℤ pos jitter) +ℤ pos ticks)
  with_jitter moment later ticks jitter at = omega (arith, ints, at)

  module _ (above : InPhase) (phase : IsPhase above.phase) (divides : above.phase.period ∣ question.cycle)
      (here : (start : ℤ) → in_cycle start above ≡ true → Ends start) where
    released : (arrival : ℕ) (moment : ℤ) → moment ≡ pos arrival → arrival < question.cycle → IsArrivalOf above.phase (pos arrival)
        → (lies_in question.cycle moment && arrives_at above.phase moment) ≡ true
    released arrival moment same before arrives =
        subst (λ m. (lies_in question.cycle m && arrives_at above.phase m) ≡ true) (sym same)
        (ap (λ b. b && arrives_at above.phase (pos arrival)) (lies_there question.cycle (pos arrival) (omega (arith, ints)) (omega (arith, ints, before)))
        ∙ test_from_arrival above.phase phase (pos arrival) arrives)

    -- that arrives in the cycle
    from_cycle : (arrival : ℕ) → arrival < question.cycle → IsArrivalOf above.phase (pos arrival) → Ends (pos arrival +ℤ pos above.jitter)
    from_cycle arrival before arrives =
        here (pos arrival +ℤ pos above.jitter) (released arrival _ (back (pos arrival) above.jitter) before arrives)
      where
        back : (moment : ℤ) (jitter : ℕ) → ((moment +ℤ pos jitter) -ℤ pos jitter) ≡ moment
        back moment jitter = omega (arith, ints)

    -- from 0 on
    from_first : (arrival : ℕ) → IsArrivalOf above.phase (pos arrival) → Ends (pos arrival +ℤ pos above.jitter)
    from_first arrival arrives =
        let cycles = arrival / question.cycle in
        let rest = arrival % question.cycle in
        let parts : arrival / question.cycle * question.cycle + arrival % question.cycle ≡ arrival = div-add-mod' arrival question.cycle in
        let at : pos arrival ≡ (pos (arrival % question.cycle) +ℤ pos (arrival / question.cycle * question.cycle)) = omega (arith, ints, parts) in
        moved cycles (pos rest +ℤ pos above.jitter) (pos arrival +ℤ pos above.jitter)
        (with_jitter (pos rest) (pos arrival) (cycles * question.cycle) above.jitter at)
        (from_cycle rest (mod_below arrival question.cycle comes.some)
        (arrives_earlier above.phase phase (cycles * question.cycle) (dvd-mul_left_of_dvd above.phase.period divides cycles) (pos rest) (pos arrival) at arrives))

    -- at any moment
    from_any : (arrival : ℤ) → IsArrivalOf above.phase arrival → Ends (arrival +ℤ pos above.jitter)
    from_any (pos arrival) arrives = from_first arrival arrives
    from_any (negsuc ago) arrives =
        let ticks = suc ago * question.cycle in
        let enough : suc ago ≤ suc ago * question.cycle = omega (arith, mul-le-mul_right (suc ago) comes.some) in
        let at : pos (suc ago * question.cycle - suc ago) ≡ (negsuc ago +ℤ pos (suc ago * question.cycle)) = omega (arith, ints, enough) in
        let later = ticks - suc ago in
        moved_back (suc ago) (negsuc ago +ℤ pos above.jitter) (pos later +ℤ pos above.jitter)
        (with_jitter (negsuc ago) (pos later) ticks above.jitter at)
        (from_first later (arrives_later above.phase phase ticks (dvd-mul_left_of_dvd above.phase.period divides (suc ago)) (negsuc ago) (pos later) at arrives))

    from_release : (moment : ℤ) → is_latest_release moment above ≡ true → Ends moment
    from_release moment arrives =
        subst Ends (forth moment above.jitter) (from_any (moment -ℤ pos above.jitter) (arrives_from_test above.phase phase (moment -ℤ pos above.jitter) arrives))
      where
        forth : (moment : ℤ) (jitter : ℕ) → ((moment -ℤ pos jitter) +ℤ pos jitter) ≡ moment
        forth moment jitter = omega (arith, ints)

  -- one of a list
  from_one : (list : List InPhase) → All (IsInPhaseInRange question.cycle) list → ((start : ℤ) → list_any (in_cycle start) list ≡ true → Ends start)
      → (moment : ℤ) → list_any (is_latest_release moment) list ≡ true → Ends moment
  from_one [] range here moment is = absurd (true≢false (sym is))
  from_one (first ∷ rest) range here moment is = by (is_latest_release moment first) refl
      (from_one rest (All-tail (IsInPhaseInRange question.cycle) first rest range) (λ start lies. here start (or_true (in_cycle start first) _ lies)) moment)
    where
      by : (b : Bool) → is_latest_release moment first ≡ b → (list_any (is_latest_release moment) rest ≡ true → Ends moment) → Ends moment
      by true releases later =
          let is_first = All-head (IsInPhaseInRange question.cycle) first rest range in
          from_release first is_first.phase.is_phase is_first.comes_round
          (λ start lies. here start (ap (λ b. b || list_any (in_cycle start) rest) lies)) moment releases
      by false not later = later (ap (λ b. b || list_any (is_latest_release moment) rest) (sym not) ∙ is)

  -- ---- at all moments

  module _ (range : IsPhasedInRange question) (answered : AreCandidatesAnswered question within (pos 0 -ℤ pos 1)) where
    at_candidate : (start : ℤ) → IsCandidateOf question start → Ends start
    at_candidate start candidate = answered start (follows_0 question range start candidate) candidate

    at_release : (moment : ℤ) → list_any (is_latest_release moment) question.in_phase ≡ true → Ends moment
    at_release = from_one question.in_phase range.in_phase (λ start lies. at_candidate start (one_passes (in_cycle start) question.in_phase start lies))

    -- a later moment is answered
    record IsLaterAnswered (moment : ℤ) : Type 0 where
      later : ℤ
      after : moment ≤ℤ later
      ends : Ends later

    later_answered : (moment : ℕ) → IsLaterAnswered (pos moment)
    later_answered moment = by question.in_phase refl
      where
        by : (list : List InPhase) → question.in_phase ≡ list → IsLaterAnswered (pos moment)
        by [] none =
            let enough : moment ≤ moment * question.cycle = omega (arith, mul-le-mul_right moment comes.some) in
            record {
              later = pos (moment * question.cycle);
              after = omega (arith, ints, enough);
              ends = moved moment (pos 0) (pos (moment * question.cycle)) (omega (arith, ints))
                  (at_candidate (pos 0) (subst (λ list. PassesOrZero (in_cycle (pos 0)) list (pos 0)) (sym none) refl));
            }
        by (first ∷ rest) some =
            let is = All-head (IsInPhaseInRange question.cycle) first rest (subst (All (IsInPhaseInRange question.cycle)) some range.in_phase) in
            let arrival = first_arrival first.phase (pos moment -ℤ pos first.jitter) in
            record {
              later = arrival +ℤ pos first.jitter;
              after = past (pos moment) arrival first.jitter (first_after first.phase is.phase.is_phase (pos moment -ℤ pos first.jitter));
              ends = at_release (arrival +ℤ pos first.jitter)
                  (ap (list_any (is_latest_release (arrival +ℤ pos first.jitter))) some
                  ∙ ap (λ b. b || list_any (is_latest_release (arrival +ℤ pos first.jitter)) rest)
                  (subst (λ m. arrives_at first.phase m ≡ true) (sym (back arrival first.jitter))
                  (test_from_arrival first.phase is.phase.is_phase arrival (first_arrives first.phase is.phase.is_phase (pos moment -ℤ pos first.jitter)))));
            }
          where
            past : (moment arrival : ℤ) (jitter : ℕ) → (moment -ℤ pos jitter) ≤ℤ arrival → moment ≤ℤ (arrival +ℤ pos jitter)
            past moment arrival jitter after = omega (arith, ints, after)

            back : (arrival : ℤ) (jitter : ℕ) → ((arrival +ℤ pos jitter) -ℤ pos jitter) ≡ arrival
            back arrival jitter = omega (arith, ints)

    -- a moment is where the next one is
    a_tick_back : (moment : ℤ) → Ends (moment +ℤ pos 1) → Ends moment
    a_tick_back moment next = by (list_any (is_latest_release moment) question.in_phase) refl
      where
        by : (b : Bool) → list_any (is_latest_release moment) question.in_phase ≡ b → Ends moment
        by true releases = at_release moment releases
        by false none = ends_a_tick_earlier question moment (moment +ℤ pos within) (each_fails (is_latest_release moment) question.in_phase none)
            (ends_later (asked_of question) (moment +ℤ pos 1) ((moment +ℤ pos 1) +ℤ pos within) ((moment +ℤ pos within) +ℤ pos 1) (omega (arith, ints)) next)

    go_back : (later : ℤ) → Ends later → (ticks : ℕ) (moment : ℤ) → later ≡ (moment +ℤ pos ticks) → Ends moment
    go_back later ends zero moment far = subst Ends (same later moment far) ends
      where
        same : (later moment : ℤ) → later ≡ (moment +ℤ pos 0) → later ≡ moment
        same later moment far = omega (arith, ints, far)
    go_back later ends (suc ticks) moment far =
        let nearer : later ≡ ((moment +ℤ pos 1) +ℤ pos ticks) = omega (arith, ints, far) in
        a_tick_back moment (go_back later ends ticks (moment +ℤ pos 1) nearer)

    ends_at : (moment : ℕ) → Ends (pos moment)
    ends_at moment =
        let there = later_answered moment in
        let far = back_to there.later (pos moment) there.after in
        go_back there.later there.ends far.ticks (pos moment) (apart there.later (pos moment) far.ticks far.is)
      where
        apart : (later moment : ℤ) (ticks : ℕ) → (later -ℤ moment) ≡ pos ticks → later ≡ (moment +ℤ pos ticks)
        apart later moment ticks is = omega (arith, ints, is)

    -- so the response suffices where a job can arrive at each moment
    pub candidates_suffice : question.arrivals.period ≡ 1 → question.beside.jitter ≡ 0 → suffices (asked_of question) within ≡ true
    candidates_suffice each no_jitter = moments_suffice question range each no_jitter within (negsuc 0) (omega (arith, ints)) from_0
      where
        from_0 : (start : ℤ) → negsuc 0 <ℤ start → start <ℤ pos question.cycle → Ends start
        from_0 (pos moment) after before = ends_at moment
        from_0 (negsuc ago) after before = absurd (omega (arith, ints, after))
