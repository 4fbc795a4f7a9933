-- Each task of a valid model has a worst window.
use Rattle.std.proofs.Common.{◌≡◌, ◌⊎◌, ℕ, zero, suc, ◌+◌, ◌-◌, ◌*◌, ◌<◌, ◌≤◌, inl, inr, Bool, true, false, not, ◌&&◌, ℤ, pos, negsuc, ◌+ℤ◌, ◌-ℤ◌, ◌≤ℤ◌, ◌<ℤ◌, List, [], ◌∷◌, length, refl, sym, ap, ◌∙◌, subst, arith}
use Rattle.std.specs.Prelude.{◌==◌, unsigned_abs, Option, Some, None}
use Rattle.std.specs.List.{list_any}
use Rattle.std.proofs.lemmas.Bool.{cases_lt, true≢false, eqb-true, eq-eqb}
use Rattle.std.proofs.lemmas.Int.{ints, by_lt_z}
use Rattle.cl_model.specs.{declared.{limits.TheConstants.{MOST_TICKS, MOST_RUNNABLES}, model.SystemModel.SystemModel}, Validity.IsValid}
use Rattle.cl_runs.specs.{SystemOf.system_of, TaskTiming.{System, timing_at}, ExecutionTimes.greatest_execution}
use Rattle.cl_runs.proofs.ModelSystem.{count_is, system_sound}
use Rattle.cl_stim.specs.{declared.phase.Phase.Phase, Phase.{last_arrival, arrives_at, phase_of}}
use Rattle.cl_stim.proofs.{ArrivalTests.{arrives_from_test, test_from_arrival}, PhaseSteps.last_before}
use Rattle.cl_cycle.specs.Cycles.{in_phase_above}
use Rattle.cl_resp.specs.{declared.{worst.WorstWindow.WorstWindow, question.Block.TheVariants.OfLower}, Asked.{Asked, holds_within, beginnings_of, is_answered, suffices, MayBegin, EndsBy, AskedComesRound}, Question.{tight_question_of, IsQuestionInRange}, Worst.{within_of, NoneEndsBy}}
use Rattle.cl_resp.specs.{Worst.{IsFirstUnanswered, PassesOrZero, IsWorstWindowOf}, Inner.Worst.{IsLatestUnanswered, AreAnsweredBefore}}
use Rattle.cl_resp.proofs.{LeastRound.asked_comes_round, Questions.questions_in_range, PhasedQuestions.{is_question, question_in_range}, SearchedStarts.{IsBack, back_to, ends_by, answered_at, answered_from, suffices_from}, WorstBeginnings.{never_both, none_ends, latest_is, first_is}}
use Rattle.cl_resp.proofs.{WorstCandidates.{in_bounds_of, follows_0}, WorstTasks.{same_asked, worst_fixed, worst_other}, WorstWithin.{arrivals_lack, candidates_lack}}

-- ---- the first number that passes a test

pub record IsFirstOf (test : ℕ → Bool) (below n : ℕ) : Type 0 where
  pub within : n < below
  pub passes : test n ≡ true
  pub first : (k : ℕ) → k < n → test k ≡ false

module _ (test : ℕ → Bool) where
  abbrev NonePasses : (below : ℕ) → Type 0
  NonePasses below = (k : ℕ) → k < below → test k ≡ false

  abbrev Found : (below : ℕ) → Type 0
  Found below = NonePasses below ⊎ ((n : ℕ) × IsFirstOf test below n)

  next : (below : ℕ) → Found below → Found (suc below)
  next below (inr (n, first)) = inr (n, record { within = omega (arith, first.within); passes = first.passes; first = first.first })
  next below (inl none) = by (test below) refl
    where
      same : (k : ℕ) → below ≤ k → k < suc below → below ≡ k
      same k after before = omega (arith, after, before)

      by : (b : Bool) → test below ≡ b → Found (suc below)
      by true passes = inr (below, record { within = omega arith; passes = passes; first = none })
      by false fails = inl (λ k before. elim (cases_lt k below) [
        | inl less ↦ none k less
        | inr after ↦ ap test (sym (same k after before)) ∙ fails
      ])

  pub first_below : (below : ℕ) → Found below
  first_below zero = inl (λ k before. absurd (omega (arith, before)))
  first_below (suc below) = next below (first_below below)

-- ---- tests

fails_not : (b : Bool) → not b ≡ true → b ≡ false
fails_not true is = absurd (true≢false (sym is))
fails_not false is = refl

passes_not : (b : Bool) → not b ≡ false → b ≡ true
passes_not true is = refl
passes_not false is = absurd (true≢false is)

both_pass : (a b : Bool) → (a && b) ≡ true → (a ≡ true) × (b ≡ true)
both_pass true b is = (refl, is)
both_pass false b is = absurd (true≢false (sym is))

second_fails : (a b : Bool) → (a && b) ≡ false → a ≡ true → b ≡ false
second_fails true b is passes = is
second_fails false b is passes = absurd (true≢false (sym passes))

-- ---- fixed arrivals

module _ (asked : Asked) (comes : AskedComesRound asked) (within : ℕ) where
  -- an arrival that isn't answered has a latest beginning from which no window ends in time
  module _ (arrival : ℤ) where
    abbrev latest : ℤ
    latest = arrival +ℤ pos asked.jitter

    abbrev due : ℤ
    due = arrival +ℤ pos within

    -- the arrival before it, a tick or more earlier
    abbrev before : ℤ
    before = last_arrival asked.arrivals (arrival -ℤ pos 1)

    before_it : before ≤ℤ (arrival -ℤ pos 1)
    before_it = last_before asked.arrivals comes.phase (arrival -ℤ pos 1)

    far : IsBack arrival before
    far = back_to arrival before (omega (arith, ints, before_it))

    beginnings_are : beginnings_of asked arrival ≡ asked.jitter + far.ticks
    beginnings_are = ap (λ z. asked.jitter + unsigned_abs z) far.is

    -- so long before the latest moment a window begins that ends in time, or none does
    abbrev holds : (earlier : ℕ) → Bool
    holds earlier = holds_within asked (latest -ℤ pos earlier) ((within + earlier) - asked.jitter)

    abbrev lacks : (earlier : ℕ) → Bool
    lacks earlier = not (holds earlier)

    -- so long before the latest one a window ends in time, or none does
    ends_there : (earlier : ℕ) (start : ℤ) → (latest -ℤ start) ≡ pos earlier → lacks earlier ≡ false → EndsBy asked start due
    ends_there earlier start back passes =
        let there : (latest -ℤ pos earlier) ≡ start = omega (arith, ints, back) in
        ends_by asked start due ((within + earlier) - asked.jitter) (λ some. omega (arith, ints, some, back))
        (subst (λ s. holds_within asked s ((within + earlier) - asked.jitter) ≡ true) there (passes_not (holds earlier) passes))

    none_there : (earlier : ℕ) → lacks earlier ≡ true → NoneEndsBy asked (latest -ℤ pos earlier) due
    none_there earlier fails =
        none_ends asked (latest -ℤ pos earlier) due ((within + earlier) - asked.jitter) (omega (arith, ints)) (fails_not (holds earlier) fails)

    -- a beginning is so long before it
    is_beginning : (earlier : ℕ) → earlier < beginnings_of asked arrival → MayBegin asked arrival (latest -ℤ pos earlier)
    is_beginning earlier few = record { after = omega (arith, ints, few, beginnings_are, far.is); by = omega (arith, ints) }

    pub latest_lacking : is_answered asked within arrival ≡ false → (start : ℤ) × IsLatestUnanswered asked within arrival start
    latest_lacking lacking = by (first_below lacks (beginnings_of asked arrival))
      where
        nearer : (earlier other : ℕ) (start : ℤ) → (latest -ℤ pos earlier) <ℤ start → (latest -ℤ start) ≡ pos other → other < earlier
        nearer earlier other start after back = omega (arith, ints, after, back)

        by : Found lacks (beginnings_of asked arrival) → (start : ℤ) × IsLatestUnanswered asked within arrival start
        by (inl none) = absurd (true≢false (sym (answered_from asked comes.phase arrival within (λ start may.
            let earlier = back_to latest start may.by in
            ends_there earlier.ticks start earlier.is (none earlier.ticks (omega (arith, ints, beginnings_are, far.is, earlier.is, may.after))))) ∙ lacking))
        by (inr (earlier, first)) = (
          latest -ℤ pos earlier,
          latest_is asked within arrival (latest -ℤ pos earlier) (is_beginning earlier first.within) (none_there earlier first.passes)
              (λ other after may.
              let back = back_to latest other may.by in
              ends_there back.ticks other back.is (first.first back.ticks (nearer earlier back.ticks other after back.is))),
        )

  abbrev arrives_there : (moment : ℕ) → Bool
  arrives_there moment = arrives_at asked.arrivals (pos moment)

  abbrev answered : (moment : ℕ) → Bool
  answered moment = is_answered asked within (pos moment)

  abbrev bad : (moment : ℕ) → Bool
  bad moment = arrives_there moment && not (answered moment)

  -- where not all of a cycle are answered, there is a first arrival that isn't
  pub some_unanswered : (suffices asked within ≡ true → ⊥) → (window : WorstWindow) × IsFirstUnanswered asked within window
  some_unanswered lack = by (first_below bad asked.cycle)
    where
      answered_before : (moment : ℕ) → ((k : ℕ) → k < moment → bad k ≡ false) → AreAnsweredBefore asked within (pos moment)
      answered_before moment first (pos k) arrives not_before before =
          let passes = passes_not (answered k) (second_fails (arrives_there k) (not (answered k)) (first k (omega (arith, ints, before)))
          (test_from_arrival asked.arrivals comes.phase (pos k) arrives)) in
          answered_at asked comes.phase (pos k) within passes
      answered_before moment first (negsuc k) arrives not_before before = absurd (omega (arith, ints, not_before))

      by : Found bad asked.cycle → (window : WorstWindow) × IsFirstUnanswered asked within window
      by (inl none) = absurd (lack (suffices_from asked within (λ moment before arrives. passes_not (answered moment) (second_fails (arrives_there moment) (not (answered moment)) (none moment before) arrives))))
      by (inr (moment, first)) =
          let both = both_pass (arrives_there moment) (not (answered moment)) first.passes in
          let (start, found) = latest_lacking (pos moment) (fails_not (answered moment) both.1) in (
            record { arrival = pos moment; start = start },
            first_is asked within (pos moment) start (omega (arith, ints)) (omega (arith, ints, first.within))
                (arrives_from_test asked.arrivals comes.phase (pos moment) both.0) (answered_before moment first.first) found,
          )

-- ---- other arrivals

module _ {X : Type 0} (list : List X) (released_at : ℤ → X → Bool) (asked : Asked) (within bound : ℕ)
    (in_bounds : (start : ℤ) → PassesOrZero (released_at start) list start → (pos 0 ≤ℤ start) × (start <ℤ pos bound)) where
  abbrev Candidate : ℤ → Type 0
  Candidate start = PassesOrZero (released_at start) list start

  -- from the candidates on, windows end in time
  abbrev AllEnd : Type 0
  AllEnd = (start : ℤ) → (pos 0 -ℤ pos 1) <ℤ start → Candidate start → EndsBy asked start (start +ℤ pos within)

  -- the least of the candidates from which on none does
  pub record IsLeast (start : ℤ) : Type 0 where
    pub follows : (pos 0 -ℤ pos 1) <ℤ start
    pub is_candidate : Candidate start
    pub none : NoneEndsBy asked start (start +ℤ pos within)
    pub least : (other : ℤ) → Candidate other → NoneEndsBy asked other (other +ℤ pos within) → start ≤ℤ other

  -- whether a moment is a candidate
  abbrev passes_or_zero : List X → (moment : ℕ) → Bool
  passes_or_zero [] moment = moment == 0
  passes_or_zero (first ∷ rest) moment = list_any (released_at (pos moment)) (first ∷ rest)

  is_there : (items : List X) (moment : ℕ) → passes_or_zero items moment ≡ true → PassesOrZero (released_at (pos moment)) items (pos moment)
  is_there [] moment is = ap pos (eqb-true moment 0 is)
  is_there (first ∷ rest) moment is = is

  passes_there : (items : List X) (moment : ℕ) → PassesOrZero (released_at (pos moment)) items (pos moment) → passes_or_zero items moment ≡ true
  passes_there [] moment is = eq-eqb moment 0 (omega (arith, ints, is))
  passes_there (first ∷ rest) moment is = is

  abbrev holds_here : (moment : ℕ) → Bool
  holds_here moment = holds_within asked (pos moment) within

  abbrev lacking : (moment : ℕ) → Bool
  lacking moment = passes_or_zero list moment && not (holds_here moment)

  -- a candidate that isn't lacking ends in time
  ends_here : (moment : ℕ) → lacking moment ≡ false → Candidate (pos moment) → EndsBy asked (pos moment) (pos moment +ℤ pos within)
  ends_here moment fails candidate =
      ends_by asked (pos moment) (pos moment +ℤ pos within) within (λ some. omega (arith, ints))
      (passes_not (holds_here moment) (second_fails (passes_or_zero list moment) (not (holds_here moment)) fails (passes_there list moment candidate)))

  -- where not all candidates are answered, there is a least one that isn't
  pub some_candidate : (AllEnd → ⊥) → (start : ℤ) × IsLeast start
  some_candidate lack = by (first_below lacking bound)
    where
      all_end : ((k : ℕ) → k < bound → lacking k ≡ false) → AllEnd
      all_end none (pos k) after candidate = ends_here k (none k (omega (arith, ints, (in_bounds (pos k) candidate).1))) candidate
      all_end none (negsuc k) after candidate = absurd (omega (arith, ints, (in_bounds (negsuc k) candidate).0))

      least_here : (moment : ℕ) → ((k : ℕ) → k < moment → lacking k ≡ false) → (other : ℤ) → Candidate other
          → NoneEndsBy asked other (other +ℤ pos within) → pos moment ≤ℤ other
      least_here moment first (pos k) candidate none = by_lt_z (pos k) (pos moment)
          (λ earlier. absurd (never_both asked (pos k) (pos k +ℤ pos within) none (ends_here k (first k (omega (arith, ints, earlier))) candidate)))
          (λ later. later)
      least_here moment first (negsuc k) candidate none = absurd (omega (arith, ints, (in_bounds (negsuc k) candidate).0))

      by : Found lacking bound → (start : ℤ) × IsLeast start
      by (inl none) = absurd (lack (all_end none))
      by (inr (moment, first)) =
          let both = both_pass (passes_or_zero list moment) (not (holds_here moment)) first.passes in (
            pos moment,
            record {
              follows = omega (arith, ints);
              is_candidate = is_there list moment both.0;
              none = none_ends asked (pos moment) (pos moment +ℤ pos within) within (omega (arith, ints)) (fails_not (holds_here moment) both.1);
              least = λ other candidate none. least_here moment first.first other candidate none;
            },
          )

-- ---- of a task

module _ (model : SystemModel) (valid : IsValid model) (task : ℕ) (known : task < length model.tasks) where
  abbrev system : System
  system = system_of model

  abbrev members : List ℕ
  members = in_phase_above system task

  abbrev time : ℕ
  time = greatest_execution (timing_at system task)

  tight : IsQuestionInRange (tight_question_of system (timing_at system task))
  tight = questions_in_range OfLower model valid task known

  some_time : 1 ≤ time
  unfolding tight_question_of
  some_time = tight.some_time

  few_time : time ≤ MOST_RUNNABLES * MOST_TICKS
  unfolding tight_question_of
  few_time = tight.time

  -- what is asked of it is known by its proof alone
  by_arrivals : (fixed : Option Phase) → phase_of (timing_at system task).pattern ≡ fixed → (window : WorstWindow) × IsWorstWindowOf system task window
  by_arrivals (Some phase) fixed =
      let asks = is_question model valid task known members (λ other. refl) time in
      let round = subst AskedComesRound (sym (same_asked system task time _ asks))
      (asked_comes_round system (system_sound model valid) task time (subst (λ n. task < n) (sym (count_is model)) known)) in
      let (window, first) = some_unanswered _ round (within_of system task) (arrivals_lack model valid task known _ asks) in
      (window, worst_fixed system task _ asks phase fixed window first)
  by_arrivals None fixed =
      let asks = is_question model valid task known members (λ other. refl) time in
      let in_range = question_in_range model valid task known members (λ other. refl) time some_time few_time in
      let (start, least) = some_candidate _ _ _ (within_of system task) _ (in_bounds_of _ in_range) (candidates_lack model valid task known _ asks fixed in_range) in (
        record { arrival = start; start = start },
        worst_other system task _ asks fixed start refl (follows_0 _ in_range)
            (record { follows = least.follows; is_candidate = least.is_candidate; none = least.none; least = λ other after candidate none. least.least other candidate none }),
      )

  pub some_worst : (window : WorstWindow) × IsWorstWindowOf system task window
  some_worst = by_arrivals (phase_of (timing_at system task).pattern) refl
