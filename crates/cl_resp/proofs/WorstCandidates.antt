-- The moments at which the worst window of a task without fixed arrivals may begin.
use Rattle.std.proofs.Common.{◌≡◌, ℕ, suc, ◌+◌, ◌<◌, ◌≤◌, Bool, true, false, ◌&&◌, ◌||◌, ℤ, pos, negsuc, ◌+ℤ◌, ◌-ℤ◌, ◌≤ℤ◌, ◌<ℤ◌, List, [], ◌∷◌, length, map, refl, sym, ap, ◌∙◌, subst, arith}
use Rattle.std.specs.Prelude.{All, slice_index_or, nat_eq, Option, Some, None, unwrap_or, MatchOption}
use Rattle.std.specs.List.{list_any}
use Rattle.std.proofs.lemmas.Bool.{true≢false, lt-ltb, ltb-true, eqb-true, eq-eqb}
use Rattle.std.proofs.lemmas.Int.{ints, by_lt_z}
use Rattle.std.proofs.lemmas.List.Elements.{All-head, All-tail}
use Rattle.std.proofs.lemmas.List.Folds.{list_any_none}
use Rattle.cl_model.specs.declared.limits.TheConstants.{MOST_TICKS}
use Rattle.cl_stim.specs.{declared.phase.Phase.Phase, Phase.{IsPhase, IsArrivalOf, last_arrival, arrives_at}}
use Rattle.cl_stim.proofs.{ArrivalTests.{arrives_from_test, test_from_arrival}, PhaseSteps.{last_arrives, last_before, last_after}}
use Rattle.cl_resp.specs.{declared.phased.{InPhase.InPhase, PhasedQuestion.PhasedQuestion}, Asked.EndsBy, Worst.{NoneEndsBy, lies_in, is_released_in, PassesOrZero}, Inner.{Phased.{asked_of, IsPhasedInRange}, Releases.IsLastReleaseBefore, Worst.{IsCandidateOf, AreCandidatesAnswered}}}
use Rattle.cl_resp.specs.Inner.Worst.{IsLeastAfter}
use Rattle.cl_resp.proofs.WorstBeginnings.{never_both, none_released}

-- ---- a release in the cycle

pub lies_there : (ticks : ℕ) (moment : ℤ) → pos 0 ≤ℤ moment → moment <ℤ pos ticks → lies_in ticks moment ≡ true
lies_there ticks (pos moment) after before = lt-ltb moment ticks (omega (arith, ints, before))
lies_there ticks (negsuc _) after before = absurd (omega (arith, ints, after))

pub not_below : (ticks : ℕ) (moment : ℤ) → lies_in ticks moment ≡ true → pos 0 ≤ℤ moment
not_below ticks (pos moment) lies = omega (arith, ints)
not_below ticks (negsuc _) lies = absurd (true≢false (sym lies))

pub lies_before : (ticks : ℕ) (moment : ℤ) → lies_in ticks moment ≡ true → moment <ℤ pos ticks
lies_before ticks (pos moment) lies = within (ltb-true moment ticks lies)
  where
    within : moment < ticks → pos moment <ℤ pos ticks
    within less = omega (arith, ints, less)
lies_before ticks (negsuc _) lies = absurd (true≢false (sym lies))

pub both : (a b : Bool) → (a && b) ≡ true → (a ≡ true) × (b ≡ true)
both true b is = (refl, is)
both false b is = absurd (true≢false (sym is))

pub arrives_where_last : (phase : Phase) → IsPhase phase → (moment : ℤ) → last_arrival phase moment ≡ moment → arrives_at phase moment ≡ true
arrives_where_last phase is moment same = test_from_arrival phase is moment (subst (IsArrivalOf phase) same (last_arrives phase is moment))

pub arrives_not : (phase : Phase) → IsPhase phase → (moment : ℤ) → (last_arrival phase moment ≡ moment → ⊥) → arrives_at phase moment ≡ false
arrives_not phase is moment other = by (arrives_at phase moment) refl
  where
    itself : (a : ℤ) → a ≤ℤ a
    itself a = omega (arith, ints)

    equal : (a b : ℤ) → a ≤ℤ b → b ≤ℤ a → a ≡ b
    equal a b less more = omega (arith, ints, less, more)

    by : (b : Bool) → arrives_at phase moment ≡ b → arrives_at phase moment ≡ false
    by false not = not
    by true arrives = absurd (other (equal _ moment (last_before phase is moment)
        (last_after phase is moment moment (arrives_from_test phase is moment arrives) (itself moment))))

-- a job is released there exactly where the last arrival is the moment without the jitter
pub released_is : (phase : Phase) → IsPhase phase → (cycle : ℕ) (start : ℤ) (jitter : ℕ) (moment last : ℤ) → moment ≡ (start -ℤ pos jitter)
    → pos 0 ≤ℤ moment → moment <ℤ pos cycle → last ≡ last_arrival phase moment → (a b : ℕ) → (a ≡ b → last ≡ moment) → (last ≡ moment → a ≡ b)
    → nat_eq a b ≡ is_released_in cycle start phase jitter
released_is phase is cycle start jitter moment last there after before found a b same equal = by (nat_eq a b) refl
  where
    whole : (arrives : Bool) → arrives_at phase moment ≡ arrives → is_released_in cycle start phase jitter ≡ arrives
    whole arrives at =
        subst (λ m. (lies_in cycle m && arrives_at phase m) ≡ arrives) there
        (ap (λ b. b && arrives_at phase moment) (lies_there cycle moment after before) ∙ at)

    by : (t : Bool) → nat_eq a b ≡ t → nat_eq a b ≡ is_released_in cycle start phase jitter
    by true eq = eq ∙ sym (whole true (arrives_where_last phase is moment (sym found ∙ same (eqb-true a b eq))))
    by false apart = apart ∙ sym (whole false (arrives_not phase is moment (λ here. true≢false (sym (eq-eqb a b (equal (found ∙ here))) ∙ apart))))

-- ---- one of a list

module _ {X : Type 0} (test : X → Bool) where
  pub passes_some : (list : List X) (start : ℤ) → (list ≡ [] → ⊥) → list_any test list ≡ true → PassesOrZero test list start
  passes_some [] start some is = absurd (some refl)
  passes_some (first ∷ rest) start some is = is

  pub passed_empty : (list : List X) (start : ℤ) → list ≡ [] → PassesOrZero test list start → start ≡ pos 0
  passed_empty [] start none is = is
  passed_empty (first ∷ rest) start none is = absurd (some (ap (length {A = X}) none))
    where
      some : suc (length rest) ≡ 0 → ⊥
      some is = omega (arith, is)

  pub passed_some : (list : List X) (start : ℤ) → (list ≡ [] → ⊥) → PassesOrZero test list start → list_any test list ≡ true
  passed_some [] start some is = absurd (some refl)
  passed_some (first ∷ rest) start some is = is

-- a mapped list passes as the list does
pub passes_mapped : {X Y : Type 0} (test : Y → Bool) (f : X → Y) (list : List X) (start : ℤ)
    → PassesOrZero test (map f list) start ≡ PassesOrZero (λ x. test (f x)) list start
passes_mapped test f [] start = refl
passes_mapped {X} test f (first ∷ rest) start = ap (λ b. (test (f first) || b) ≡ true) (any_mapped rest)
  where
    any_mapped : (list : List X) → list_any test (map f list) ≡ list_any (λ x. test (f x)) list
    any_mapped [] = refl
    any_mapped (first ∷ rest) = ap (λ b. test (f first) || b) (any_mapped rest)

-- ---- the candidates of a question

module _ (question : PhasedQuestion) where
  abbrev test : ℤ → InPhase → Bool
  test start above = is_released_in question.cycle start above.phase above.jitter

  -- where nothing is released nothing that arrives in the cycle is
  none_in_cycle : (moment : ℤ) (list : List InPhase) → All (λ (above : InPhase). arrives_at above.phase (moment -ℤ pos above.jitter) ≡ false) list
      → list_any (test moment) list ≡ false
  none_in_cycle moment list none =
      list_any_none (test moment) list (λ k d within. fails (slice_index_or list k d) (none k d within))
    where
      and_false : (b : Bool) → (b && false) ≡ false
      and_false true = refl
      and_false false = refl

      fails : (above : InPhase) → arrives_at above.phase (moment -ℤ pos above.jitter) ≡ false → test moment above ≡ false
      fails above none = ap (λ b. lies_in question.cycle (moment -ℤ pos above.jitter) && b) none ∙ and_false (lies_in question.cycle (moment -ℤ pos above.jitter))

  -- between the last release before a moment and the moment lies no candidate
  pub none_between : (last : Option ℤ) (start other moment : ℤ) → MatchOption last (question.in_phase ≡ []) (IsLastReleaseBefore question start)
      → (moment ≡ pos 0 → other <ℤ moment → ⊥) → unwrap_or last other <ℤ moment → moment <ℤ start → IsCandidateOf question moment → ⊥
  none_between None start other moment is not_zero after before candidate =
      not_zero (passed_empty (test moment) question.in_phase moment is candidate) after
  none_between (Some last) start other moment is not_zero after before candidate = by question.in_phase refl
    where
      none : list_any (test moment) question.in_phase ≡ false
      none = none_in_cycle moment question.in_phase (none_released question (Some last) start other moment is after before)

      by : (list : List InPhase) → question.in_phase ≡ list → ⊥
      by [] empty = true≢false (sym is.releases ∙ ap (list_any _) empty)
      by (first ∷ rest) some = true≢false (sym (passed_some (test moment) question.in_phase moment (apart some) candidate) ∙ none)
        where
          apart : question.in_phase ≡ (first ∷ rest) → question.in_phase ≡ [] → ⊥
          apart some empty = lengths (ap (length {A = InPhase}) (sym some ∙ empty))
            where
              lengths : suc (length rest) ≡ 0 → ⊥
              lengths is = omega (arith, is)

  -- candidates lie neither before 0 nor far after the cycle
  module _ (most : ℕ) (few : All (λ (above : InPhase). above.jitter ≤ most) question.in_phase) (some : 1 ≤ question.cycle) where
    in_bounds : (start : ℤ) (jitter : ℕ) → jitter ≤ most → pos 0 ≤ℤ (start -ℤ pos jitter) → (start -ℤ pos jitter) <ℤ pos question.cycle
        → (pos 0 ≤ℤ start) × (start <ℤ pos (question.cycle + most))
    in_bounds start jitter few after before = (omega (arith, ints, after), omega (arith, ints, before, few))

    one_in_bounds : (start : ℤ) (list : List InPhase) → All (λ (above : InPhase). above.jitter ≤ most) list → list_any (test start) list ≡ true
        → (pos 0 ≤ℤ start) × (start <ℤ pos (question.cycle + most))
    one_in_bounds start [] few is = absurd (true≢false (sym is))
    one_in_bounds start (first ∷ rest) few is = by (test start first) refl
        (one_in_bounds start rest (All-tail (λ (above : InPhase). above.jitter ≤ most) first rest few))
      where
        by : (b : Bool) → test start first ≡ b → (list_any (test start) rest ≡ true → (pos 0 ≤ℤ start) × (start <ℤ pos (question.cycle + most)))
            → (pos 0 ≤ℤ start) × (start <ℤ pos (question.cycle + most))
        by true here later =
            let lies = (both _ _ here).0 in
            in_bounds start first.jitter (All-head (λ (above : InPhase). above.jitter ≤ most) first rest few)
            (not_below question.cycle _ lies) (lies_before question.cycle _ lies)
        by false here later = later (ap (λ b. b || list_any (test start) rest) (sym here) ∙ is)

    pub candidate_in_bounds : (start : ℤ) → IsCandidateOf question start → (pos 0 ≤ℤ start) × (start <ℤ pos (question.cycle + most))
    candidate_in_bounds start candidate = by question.in_phase few candidate
      where
        zero_in : (start : ℤ) (cycle : ℕ) → 1 ≤ cycle → start ≡ pos 0 → (pos 0 ≤ℤ start) × (start <ℤ pos (cycle + most))
        zero_in start cycle some is = (omega (arith, ints, is), omega (arith, ints, is, some))

        by : (list : List InPhase) → All (λ (above : InPhase). above.jitter ≤ most) list → PassesOrZero (test start) list start
            → (pos 0 ≤ℤ start) × (start <ℤ pos (question.cycle + most))
        by [] few is = zero_in start question.cycle some is
        by (first ∷ rest) few is = one_in_bounds start (first ∷ rest) few is

-- ---- the least candidate

module _ (question : PhasedQuestion) (within : ℕ) where
  -- what is known of the candidates after a moment: they are answered, or one is the least that isn't
  abbrev pub IsFoundAfter : (found : Option ℤ) → (after : ℤ) → Type 0
  IsFoundAfter found after = MatchOption found (AreCandidatesAnswered question within after) (IsLeastAfter question within after)

  module _ (start next : ℤ) (before : next <ℤ start)
      (none : (moment : ℤ) → next <ℤ moment → moment <ℤ start → IsCandidateOf question moment → ⊥) where
    further : (found : ℤ) → start <ℤ found → next <ℤ found
    further found after = omega (arith, ints, before, after)

    reflexive : (z : ℤ) → z ≤ℤ z
    reflexive z = omega (arith, ints)

    weaker : (a b : ℤ) → a <ℤ b → a ≤ℤ b
    weaker a b less = omega (arith, ints, less)

    equal : (a b : ℤ) → a ≤ℤ b → b ≤ℤ a → a ≡ b
    equal a b less more = omega (arith, ints, less, more)

    -- a candidate after the next moment is after this one, or this one itself
    by_place : {P : Type 0} (other : ℤ) → next <ℤ other → IsCandidateOf question other → (start <ℤ other → P) → (start ≡ other → P) → P
    by_place other after candidate later here = by_lt_z start other later
        (λ by. by_lt_z other start (λ less. absurd (none other after less candidate)) (λ more. here (equal start other more by)))

    -- the moment itself is unanswered
    pub found_here : (found : Option ℤ) → IsFoundAfter found start → IsCandidateOf question start
        → NoneEndsBy (asked_of question) start (start +ℤ pos within) → IsFoundAfter (Some start) next
    found_here found is candidate lacks = record {
      follows = before;
      is_candidate = candidate;
      none = lacks;
      least = λ other after other_candidate other_lacks.
          by_place other after other_candidate (λ later. weaker start other later) (λ same. subst (λ z. start ≤ℤ z) same (reflexive start));
    }

    -- it is answered, or is no candidate
    pub not_here : (found : Option ℤ) → IsFoundAfter found start
        → (IsCandidateOf question start → EndsBy (asked_of question) start (start +ℤ pos within)) → IsFoundAfter found next
    not_here None is ends = λ other after candidate.
        by_place other after candidate (λ later. is other later candidate)
        (λ same. subst (λ z. EndsBy (asked_of question) z (z +ℤ pos within)) same (ends (subst (IsCandidateOf question) (sym same) candidate)))
    not_here (Some found) is ends = record {
      follows = further found is.follows;
      is_candidate = is.is_candidate;
      none = is.none;
      least = λ other after candidate lacks.
          by_place other after candidate (λ later. is.least other later candidate lacks)
          (λ same. absurd (never_both (asked_of question) other (other +ℤ pos within) lacks
          (subst (λ z. EndsBy (asked_of question) z (z +ℤ pos within)) same (ends (subst (IsCandidateOf question) (sym same) candidate)))));
    }

  further_past : (a b c : ℤ) → a ≤ℤ b → b <ℤ c → a <ℤ c
  further_past a b c less more = omega (arith, ints, less, more)

  -- no candidate lies after a moment
  pub none_after : (start : ℤ) → ((moment : ℤ) → start <ℤ moment → IsCandidateOf question moment → ⊥) → IsFoundAfter None start
  none_after start none other after candidate = absurd (none other after candidate)

  -- after a later moment that all candidates follow
  pub found_past : (found : Option ℤ) (start other : ℤ) → start ≤ℤ other → ((moment : ℤ) → IsCandidateOf question moment → other <ℤ moment)
      → IsFoundAfter found start → IsFoundAfter found other
  found_past None start other before follow is = λ moment after candidate. is moment (further_past start other moment before after) candidate
  found_past (Some found) start other before follow is = record {
    follows = follow found is.is_candidate;
    is_candidate = is.is_candidate;
    none = is.none;
    least = λ moment after. is.least moment (further_past start other moment before after);
  }

-- ---- in range

jitters : (question : PhasedQuestion) → IsPhasedInRange question → All (λ (above : InPhase). above.jitter ≤ MOST_TICKS) question.in_phase
jitters question range k d within = (range.in_phase k d within).jitter

pub in_bounds_of : (question : PhasedQuestion) → IsPhasedInRange question → (start : ℤ) → IsCandidateOf question start
    → (pos 0 ≤ℤ start) × (start <ℤ pos (question.cycle + MOST_TICKS))
in_bounds_of question range = candidate_in_bounds question MOST_TICKS (jitters question range) range.some

pub follows_0 : (question : PhasedQuestion) → IsPhasedInRange question → (start : ℤ) → IsCandidateOf question start → (pos 0 -ℤ pos 1) <ℤ start
follows_0 question range start candidate = follows start (in_bounds_of question range start candidate).0
  where
    follows : (moment : ℤ) → pos 0 ≤ℤ moment → (pos 0 -ℤ pos 1) <ℤ moment
    follows moment after = omega (arith, ints, after)
