-- Beginnings from which no window ends in time: the latest of an arrival, and the first arrival that has one.
use Rattle.std.proofs.Common.{◌≡◌, ℕ, zero, suc, ◌<◌, ◌≤◌, inl, inr, true, false, ℤ, pos, ◌+ℤ◌, ◌-ℤ◌, ◌≤ℤ◌, ◌<ℤ◌, [], refl, sym, ◌∙◌, subst, arith}
use Rattle.std.specs.Prelude.{All, Option, Some, None, unwrap_or, MatchOption}
use Rattle.std.proofs.lemmas.Bool.{cases_lt, true≢false}
use Rattle.std.proofs.lemmas.Int.{ints, by_lt_z}
use Rattle.cl_stim.specs.Phase.{IsPhase, IsArrivalOf, first_arrival, arrives_at}
use Rattle.cl_stim.proofs.{ArrivalTests.arrives_from_test, PhaseSteps.first_before}
use Rattle.cl_resp.specs.{declared.phased.{InPhase.InPhase, PhasedQuestion.PhasedQuestion}, Asked.{Asked, holds_within, suffices, MayBegin, EndsBy}, Worst.{NoneEndsBy, IsFirstUnanswered}, Inner.{Phased.{asked_of, IsLeastFrom}, Releases.IsLastReleaseBefore, Searching.NoneReleased}}
use Rattle.cl_resp.specs.Inner.Worst.{IsAllAnswered, IsLatestUnanswered, AreAnsweredBefore}
use Rattle.cl_resp.proofs.{SearchedReleases.ends_a_tick_earlier, SearchedStarts.{back_to, ends_later, holds_by, answered_from, suffices_from}}

module _ (asked : Asked) where
  -- ---- one beginning

  pub never_both : (start latest : ℤ) → NoneEndsBy asked start latest → EndsBy asked start latest → ⊥
  never_both start latest none ends = omega (arith, none ends.width ends.some ends.by, ends.enough)

  -- none ends by a moment where none of at most as many ticks as lie before it holds its own demand
  pub none_ends : (start latest : ℤ) (most : ℕ) → latest ≤ℤ (start +ℤ pos most) → holds_within asked start most ≡ false → NoneEndsBy asked start latest
  none_ends start latest most near fails width some by = elim (cases_lt width (asked.demand start width)) [
    | inl greater ↦ greater
    | inr enough ↦ absurd (true≢false
        (sym (holds_by asked start latest most near (record { width = width; some = some; by = by; enough = enough })) ∙ fails))
  ]

  pub late_where_none : (found : Option ℕ) (start latest : ℤ) (most : ℕ) → latest ≤ℤ (start +ℤ pos most)
      → MatchOption found (holds_within asked start most ≡ false) (λ width. IsLeastFrom asked start width × (width ≤ most))
      → found ≡ None → NoneEndsBy asked start latest
  late_where_none found start latest most near is none =
      none_ends start latest most near
      (subst (λ (f : Option ℕ). MatchOption f (holds_within asked start most ≡ false) (λ width. IsLeastFrom asked start width × (width ≤ most))) none is)

  pub ends_where_some : (found : Option ℕ) (start latest : ℤ) (most : ℕ) → (1 ≤ most → (start +ℤ pos most) ≤ℤ latest)
      → MatchOption found (holds_within asked start most ≡ false) (λ width. IsLeastFrom asked start width × (width ≤ most))
      → (found ≡ None → ⊥) → EndsBy asked start latest
  ends_where_some None start latest most near is some = absurd (some refl)
  ends_where_some (Some width) start latest most near is some = record {
    width = width;
    some = is.0.some;
    by = ends start latest width most is.1 (near (reaches width most is.0.some is.1));
    enough = is.0.enough;
  }
    where
      reaches : (width most : ℕ) → 1 ≤ width → width ≤ most → 1 ≤ most
      reaches width most some within = omega (arith, some, within)

      ends : (start latest : ℤ) (width most : ℕ) → width ≤ most → (start +ℤ pos most) ≤ℤ latest → (start +ℤ pos width) ≤ℤ latest
      ends start latest width most within by = omega (arith, ints, within, by)

  -- ---- one arrival

  -- a beginning from which no window ends is the latest where those after it are answered
  pub latest_is : (within : ℕ) (arrival start : ℤ) → MayBegin asked arrival start → NoneEndsBy asked start (arrival +ℤ pos within)
      → ((other : ℤ) → start <ℤ other → MayBegin asked arrival other → EndsBy asked other (arrival +ℤ pos within))
      → IsLatestUnanswered asked within arrival start
  latest_is within arrival start may none answered = record {
    may_begin = may;
    none = none;
    latest = λ other may_other none_other. by_lt_z start other
        (λ after. absurd (never_both other (arrival +ℤ pos within) none_other (answered other after may_other)))
        (λ before. before);
  }

  -- ---- all arrivals

  module _ (is : IsPhase asked.arrivals) (within : ℕ) where
    -- none comes from 0 on before the first one there
    pub answered_before_first : AreAnsweredBefore asked within (first_arrival asked.arrivals (pos 0))
    answered_before_first arrival arrives not_before before =
        absurd (turned arrival _ before (first_before asked.arrivals is (pos 0) arrival arrives not_before))
      where
        turned : (a b : ℤ) → a <ℤ b → b ≤ℤ a → ⊥
        turned a b less more = omega (arith, ints, less, more)

    -- where an arrival is answered too, so are all before the next one
    pub answered_before_next : (arrival : ℤ) → AreAnsweredBefore asked within arrival → IsAllAnswered asked within arrival
        → AreAnsweredBefore asked within (first_arrival asked.arrivals (arrival +ℤ pos 1))
    answered_before_next arrival answered all other arrives not_before before =
        by_lt_z other arrival (λ earlier. answered other arrives not_before earlier)
        (λ later. by_lt_z arrival other
        (λ after. absurd (turned other _ before (first_before asked.arrivals is (arrival +ℤ pos 1) other arrives (stepped arrival other after))))
        (λ same. subst (λ a. IsAllAnswered asked within a) (equal arrival other later same) all))
      where
        turned : (a b : ℤ) → a <ℤ b → b ≤ℤ a → ⊥
        turned a b less more = omega (arith, ints, less, more)

        stepped : (a b : ℤ) → a <ℤ b → (a +ℤ pos 1) ≤ℤ b
        stepped a b less = omega (arith, ints, less)

        equal : (a b : ℤ) → a ≤ℤ b → b ≤ℤ a → a ≡ b
        equal a b less more = omega (arith, ints, less, more)

    -- where all of a cycle are answered, the response suffices
    pub all_suffices : (end : ℤ) → pos asked.cycle ≤ℤ end → AreAnsweredBefore asked within end → suffices asked within ≡ true
    all_suffices end past answered =
        suffices_from asked within (λ moment before arrives.
        answered_from asked is (pos moment) within
        (answered (pos moment) (arrives_from_test asked.arrivals is (pos moment) arrives) (from_0 moment) (by_end moment asked.cycle end before past)))
      where
        from_0 : (moment : ℕ) → pos 0 ≤ℤ pos moment
        from_0 moment = omega (arith, ints)

        by_end : (moment cycle : ℕ) (end : ℤ) → moment < cycle → pos cycle ≤ℤ end → pos moment <ℤ end
        by_end moment cycle end before past = omega (arith, ints, before, past)

  -- the latest beginning of the first arrival that isn't answered
  pub first_is : (within : ℕ) (arrival start : ℤ) → pos 0 ≤ℤ arrival → arrival <ℤ pos asked.cycle → IsArrivalOf asked.arrivals arrival
      → AreAnsweredBefore asked within arrival → IsLatestUnanswered asked within arrival start
      → IsFirstUnanswered asked within (record { arrival = arrival; start = start })
  first_is within arrival start not_before in_cycle arrives answered found = record {
    unanswered = record { not_before = not_before; in_cycle = in_cycle; arrives = arrives; may_begin = found.may_begin; none = found.none };
    first = λ other begun lacks. by_lt_z other arrival
        (λ earlier. absurd (never_both begun (other +ℤ pos within) lacks.none (answered other lacks.arrives lacks.not_before earlier begun lacks.may_begin)))
        (λ later. later);
    latest = λ begun lacks. found.latest begun lacks.may_begin lacks.none;
  }

-- ---- back over moments at which nothing is released

module _ (question : PhasedQuestion) where
  -- nothing is released after the last release, or at all
  pub none_released : (last : Option ℤ) (start other moment : ℤ) → MatchOption last (question.in_phase ≡ []) (IsLastReleaseBefore question start)
      → unwrap_or last other <ℤ moment → moment <ℤ start → NoneReleased question moment
  none_released None start other moment is after before =
      subst (All (λ (above : InPhase). arrives_at above.phase (moment -ℤ pos above.jitter) ≡ false)) (sym is) (λ k d within. absurd (past k within))
    where
      past : (k : ℕ) → suc k ≤ 0 → ⊥
      past k within = omega (arith, within)
  none_released (Some last) start other moment is after before =
      is.none_between moment (stepped last moment after) (stepped moment start before)
    where
      stepped : (a b : ℤ) → a <ℤ b → (a +ℤ pos 1) ≤ℤ b
      stepped a b less = omega (arith, ints, less)

  module _ (latest last start : ℤ) (none : (moment : ℤ) → last <ℤ moment → moment <ℤ start → NoneReleased question moment)
      (ends : EndsBy (asked_of question) start latest) where
    go_back : (ticks : ℕ) (moment : ℤ) → start ≡ (moment +ℤ pos ticks) → last <ℤ moment → EndsBy (asked_of question) moment latest
    go_back zero moment far after = subst (λ s. EndsBy (asked_of question) s latest) (same moment far) ends
      where
        same : (moment : ℤ) → start ≡ (moment +ℤ pos 0) → start ≡ moment
        same moment far = omega (arith, ints, far)
    go_back (suc ticks) moment far after =
        let before : moment <ℤ start = omega (arith, ints, far) in
        let next : start ≡ ((moment +ℤ pos 1) +ℤ pos ticks) = omega (arith, ints, far) in
        let later : last <ℤ (moment +ℤ pos 1) = omega (arith, ints, after) in
        let longer : latest ≤ℤ (latest +ℤ pos 1) = omega (arith, ints) in
        ends_a_tick_earlier question moment latest (none moment after before)
        (ends_later (asked_of question) (moment +ℤ pos 1) latest (latest +ℤ pos 1) longer (go_back ticks (moment +ℤ pos 1) next later))

    -- a window that begins earlier, but after the last release, ends in time too
    pub ends_back : (moment : ℤ) → last <ℤ moment → moment ≤ℤ start → EndsBy (asked_of question) moment latest
    ends_back moment after before =
        let far = back_to start moment before in
        go_back far.ticks moment (there start moment far.ticks far.is) after
      where
        there : (start moment : ℤ) (ticks : ℕ) → (start -ℤ moment) ≡ pos ticks → start ≡ (moment +ℤ pos ticks)
        there start moment ticks is = omega (arith, ints, is)

  -- what is answered after a beginning is after the next one, where a window from it ends in time
  pub answered_after_next : (within : ℕ) (arrival start before : ℤ) (last : Option ℤ)
      → MatchOption last (question.in_phase ≡ []) (IsLastReleaseBefore question start)
      → EndsBy (asked_of question) start (arrival +ℤ pos within)
      → ((other : ℤ) → start <ℤ other → MayBegin (asked_of question) arrival other → EndsBy (asked_of question) other (arrival +ℤ pos within))
      → (other : ℤ) → unwrap_or last before <ℤ other → MayBegin (asked_of question) arrival other → EndsBy (asked_of question) other (arrival +ℤ pos within)
  answered_after_next within arrival start before last is ends answered other after may = by_lt_z start other
      (λ later. answered other later may)
      (λ earlier. ends_back (arrival +ℤ pos within) (unwrap_or last before) start
      (λ moment. none_released last start before moment is) ends other after earlier)
