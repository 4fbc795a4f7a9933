-- The first start whose walks last so long, one arrival after the other. Times are in ticks.
use Rattle.std.proofs.Common.{◌≡◌, ℕ, zero, suc, ◌+◌, ◌-◌, ◌<◌, ◌≤◌, Bool, true, false, cond, ℤ, pos, min, ◌+ℤ◌, ◌≤ℤ◌, ◌<ℤ◌, List, [], ◌∷◌, ◌++◌, refl, ap, sym, ◌∙◌, subst, arith}
use Rattle.std.specs.Prelude.{◌==◌, find, Some, None, unwrap_or}
use Rattle.std.specs.Option.{option_or}
use Rattle.std.proofs.lemmas.Bool.{eqb-true}
use Rattle.std.proofs.lemmas.Int.{ints}
use Rattle.std.proofs.lemmas.List.Folds.{find-append}
use Rattle.cl_model.specs.declared.{chain.{LengthKind.TheVariants.{Reaction, Age, Reduced}, RequirementKind.{RequirementKind, TheVariants.{Length, Delay}}}, limits.TheConstants.MOST_TICKS}
use Rattle.cl_stim.specs.{declared.phase.Phase.Phase, Phase.{IsPhase, IsArrivalOf, first_arrival, arrives_at}}
use Rattle.cl_stim.proofs.{PhaseSteps.{first_arrives, first_after}, ArrivalTests.test_from_arrival}
use Rattle.cl_phase.specs.{declared.{stop.Stop.Stop, pace.Pace.{Pace, TheVariants.{Kept, Free}}, walk.Ends.Ends}, TightBounds.{ticks_or_none, starts}, Walked.{lasts_from, start_among}, Inner.Longest.{span_between, lengths_at, length_of_kind}}
use Rattle.cl_phase.proofs.{ScannedStarts.{starts_at, starts_over}, LongestWalks.{by_first, gap}}

-- whether the walks from an arrival last so long
abbrev pub lasts : RequirementKind → List Stop → (span : ℤ) → (write place bound : ℕ) → (arrival : ℕ) → Bool
lasts kind stops span write place bound arrival = ticks_or_none (lasts_from kind stops span write place (pos arrival)) == bound

-- how long they last, as code finds it
pub lasts_as_found : (kind : RequirementKind) (stops : List Stop) (ends : Ends) (place : ℕ) (arrival : ℤ)
    → length_of_kind kind (lengths_at stops ends place arrival) ≡ ticks_or_none (lasts_from kind stops (span_between ends) ends.write place arrival)
lasts_as_found (Length Reaction) stops ends place arrival = refl
lasts_as_found (Length Age) stops ends place arrival = refl
lasts_as_found (Length Reduced) stops ends place arrival = refl
lasts_as_found Delay stops ends place arrival = refl

-- none of the walks from the arrivals before one do
pub record IsSearchedTo (kind : RequirementKind) (stops : List Stop) (span : ℤ) (write place : ℕ) (phase : Phase) (ticks bound : ℕ) (arrival : ℤ) : Type 0 where
  pub moment : ℕ
  pub is : arrival ≡ pos moment
  pub found : arrives_at phase (pos moment) ≡ true
  pub near : moment ≤ ticks + MOST_TICKS
  pub none : find (lasts kind stops span write place bound) (starts (Kept phase) (min moment ticks)) ≡ None

pub fails_where : (n m : ℕ) → (n ≡ m → ⊥) → (n == m) ≡ false
fails_where n m apart =
    elim (n == m) as (λ b. (b ≡ true → n ≡ m) → b ≡ false) [ true ↦ λ same. absurd (apart (same refl)) | false ↦ λ same. refl ] (eqb-true n m)

-- a walk from anywhere, where no phase is kept, starts at 0
pub free_start : (kind : RequirementKind) (stops : List Stop) (span : ℤ) (write place bound ticks greatest : ℕ) (pace : Pace) → pace ≡ Free greatest
    → pos 0 ≡ pos (start_among kind stops span write place bound (starts pace ticks))
unfolding start_among
free_start kind stops span write place bound ticks greatest pace is =
    (elim (lasts kind stops span write place bound 0) as (λ b. pos 0 ≡ pos (unwrap_or (cond b (Some 0) None) 0)) [ true ↦ refl | false ↦ refl ])
    ∙ sym (ap (λ p. pos (unwrap_or (find (lasts kind stops span write place bound) (starts p ticks)) 0)) is)

-- the first of a list is that of a longer one
first_stays : (test : ℕ → Bool) (xs ys : List ℕ) (x : ℕ) → find test xs ≡ Some x → find test (xs ++ ys) ≡ Some x
first_stays test xs ys x is = find-append test xs ys ∙ ap (λ o. option_or o (find test ys)) is

found_next : (test : ℕ → Bool) (xs : List ℕ) (x : ℕ) → find test xs ≡ None → test x ≡ true → find test (xs ++ x ∷ []) ≡ Some x
found_next test xs x none passes =
    find-append test xs (x ∷ []) ∙ ap (λ o. option_or o (find test (x ∷ []))) none ∙ ap (λ b. cond b (Some x) None) passes

none_next : (test : ℕ → Bool) (xs : List ℕ) (x : ℕ) → find test xs ≡ None → test x ≡ false → find test (xs ++ x ∷ []) ≡ None
none_next test xs x none fails =
    find-append test xs (x ∷ []) ∙ ap (λ o. option_or o (find test (x ∷ []))) none ∙ ap (λ b. cond b (Some x) None) fails

module _ (kind : RequirementKind) (stops : List Stop) (span : ℤ) (write place : ℕ) (phase : Phase) (is : IsPhase phase) (ticks bound : ℕ) where
  abbrev searched : ℤ → Type 0
  searched arrival = IsSearchedTo kind stops span write place phase ticks bound arrival

  abbrev test : ℕ → Bool
  test = lasts kind stops span write place bound

  -- the search before its first arrival
  pub search_begins : (arrival : ℤ) → arrival ≡ first_arrival phase (pos 0) → arrival ≤ℤ pos MOST_TICKS → searched arrival
  search_begins arrival first near = by_first 0 arrival (rw first (first_after phase is (pos 0))) (λ later at_later after.
      let none : min 0 ticks ≡ 0 = omega arith in
      let at : first_arrival phase (pos 0) ≡ pos later = sym first ∙ at_later in
      record {
        moment = later;
        is = at_later;
        found = test_from_arrival phase is (pos later) (subst (IsArrivalOf phase) at (first_arrives phase is (pos 0)));
        near = omega (arith, ints, near, at_later);
        none = ap (find test) (gap phase is ticks 0 later at after ∙ ap (starts (Kept phase)) none);
      })

  starts_with : (arrival : ℤ) (so_far : searched arrival) → arrival <ℤ pos ticks
      → starts (Kept phase) (so_far.moment + 1) ≡ starts (Kept phase) (min so_far.moment ticks) ++ so_far.moment ∷ []
  starts_with arrival so_far below =
      let old : min so_far.moment ticks ≡ so_far.moment = omega (arith, ints, below, so_far.is) in
      starts_at phase so_far.moment so_far.found ∙ ap (λ n. starts (Kept phase) n ++ so_far.moment ∷ []) (sym old)

  -- at its next
  pub search_goes_on : (arrival next : ℤ) (so_far : searched arrival) → arrival <ℤ pos ticks → test so_far.moment ≡ false
      → next ≡ first_arrival phase (arrival +ℤ pos 1) → next ≤ℤ ((arrival +ℤ pos 1) +ℤ pos MOST_TICKS) → searched next
  search_goes_on arrival next so_far below fails first near =
      let from = so_far.moment + 1 in
      let at_from : (arrival +ℤ pos 1) ≡ pos from = omega (arith, ints, so_far.is) in
      by_first from next (rw (first, at_from) (first_after phase is (pos from))) (λ later at_later after.
      let at : first_arrival phase (pos from) ≡ pos later = ap (first_arrival phase) (sym at_from) ∙ sym first ∙ at_later in
      let within : so_far.moment < ticks = omega (arith, ints, below, so_far.is) in
      let one : min from ticks ≡ so_far.moment + 1 = omega (arith, within) in
      record {
        moment = later;
        is = at_later;
        found = test_from_arrival phase is (pos later) (subst (IsArrivalOf phase) at (first_arrives phase is (pos from)));
        near = omega (arith, ints, near, at_later, within, so_far.is);
        none = ap (find test) (gap phase is ticks from later at after ∙ ap (starts (Kept phase)) one ∙ starts_with arrival so_far below)
            ∙ none_next test (starts (Kept phase) (min so_far.moment ticks)) so_far.moment so_far.none fails;
      })

  -- what is found at a moment stays the first later
  stays : (from more x : ℕ) → find test (starts (Kept phase) from) ≡ Some x → find test (starts (Kept phase) (from + more)) ≡ Some x
  stays from zero x is_there = let same : from + zero ≡ from = omega arith in ap (λ n. find test (starts (Kept phase) n)) same ∙ is_there
  stays from (suc more) x is_there =
      let next : from + suc more ≡ from + more + 1 = omega arith in
      let before = stays from more x is_there in
      ap (λ n. find test (starts (Kept phase) n)) next
      ∙ (elim (arrives_at phase (pos (from + more))) as (λ b. arrives_at phase (pos (from + more)) ≡ b → find test (starts (Kept phase) (from + more + 1)) ≡ Some x) [
        | true ↦ λ here. ap (find test) (starts_at phase (from + more) here) ∙ first_stays test (starts (Kept phase) (from + more)) ((from + more) ∷ []) x before
        | false ↦ λ none. ap (find test) (starts_over phase (from + more) 1 (λ m after below.
            let same : from + more ≡ m = omega (arith, after, below) in subst (λ n. arrives_at phase (pos n) ≡ false) same none)) ∙ before
      ] refl)

  -- where it ends at an arrival
  pub search_finds : (arrival : ℤ) (so_far : searched arrival) → arrival <ℤ pos ticks → test so_far.moment ≡ true
      → arrival ≡ pos (start_among kind stops span write place bound (starts (Kept phase) ticks))
  unfolding start_among
  search_finds arrival so_far below passes =
      let within : so_far.moment < ticks = omega (arith, ints, below, so_far.is) in
      let all : so_far.moment + 1 + (ticks - (so_far.moment + 1)) ≡ ticks = omega (arith, within) in
      let here = ap (find test) (starts_with arrival so_far below) ∙ found_next test (starts (Kept phase) (min so_far.moment ticks)) so_far.moment so_far.none passes in
      so_far.is ∙ sym (ap (λ o. pos (unwrap_or o 0)) (ap (λ n. find test (starts (Kept phase) n)) (sym all) ∙ stays (so_far.moment + 1) (ticks - (so_far.moment + 1)) so_far.moment here))

  -- and where there is none
  pub search_ends : (arrival : ℤ) → searched arrival → pos ticks ≤ℤ arrival → pos 0 ≡ pos (start_among kind stops span write place bound (starts (Kept phase) ticks))
  unfolding start_among
  search_ends arrival so_far past =
      let all : min so_far.moment ticks ≡ ticks = omega (arith, ints, past, so_far.is) in
      sym (ap (λ o. pos (unwrap_or o 0)) (ap (λ n. find test (starts (Kept phase) n)) (sym all) ∙ so_far.none))
