-- How the count of arrivals grows with a window, tick by tick, and comes round. Times are in ticks,
-- and may lie before 0.
use Rattle.std.proofs.Common.{◌≡◌, ℕ, zero, suc, ◌+◌, ◌-◌, ◌≤◌, ◌==◌, Bool, false, cond, count_by, ℤ, pos, ◌+ℤ◌, ◌-ℤ◌, [], ◌∷◌, ◌++◌, refl, ap, sym, ◌∙◌, arith}
use Rattle.std.specs.Int.{◌∣◌}
use Rattle.std.specs.List.{range_with_len}
use Rattle.std.proofs.lemmas.Int.{ints}
use Rattle.std.proofs.lemmas.Bool.Decides.{nat_tests}
use Rattle.std.proofs.lemmas.List.{map-id}
use Rattle.std.proofs.lemmas.List.FromFn.{map-range_with_len_more, length-range_with_len}
use Rattle.std.proofs.lemmas.List.Sums.{sum_by_push, count_by-le-length}
use Rattle.cl_stim.specs.{declared.phase.Phase.Phase, Phase.{IsPhase, since_turn, last_in_turn, arrives_at}}
use Rattle.cl_stim.proofs.PhaseSteps.{last_moved}
use Rattle.cl_cycle.specs.Counts.{arrivals_from}

-- one tick more
range_more : (n : ℕ) → range_with_len 0 (n + 1) ≡ range_with_len 0 n ++ n ∷ []
range_more n = sym (map-id (range_with_len 0 (n + 1))) ∙ map-range_with_len_more (λ k. k) 0 n n (omega arith) ∙ ap (λ xs. xs ++ n ∷ []) (map-id (range_with_len 0 n))

-- the same moments, counted from a tick later, and from the beginning
same_moment : (from : ℤ) (n : ℕ) → ((from +ℤ pos 1) +ℤ pos n) ≡ (from +ℤ pos (n + 1))
same_moment from n = omega (arith, ints)

no_later : (from : ℤ) → (from +ℤ pos 0) ≡ from
no_later from = omega (arith, ints)

-- one where a test holds, none where it doesn't
abbrev pub one_if : Bool → ℕ
one_if found = cond found 1 0

module _ (phase : Phase) where
  -- the jobs that arrive at a moment: one or none
  abbrev pub arriving : (moment : ℤ) → ℕ
  arriving moment = one_if (arrives_at phase moment)

  -- none arrives in no ticks
  pub none_in_none : (from : ℤ) → arrivals_from phase from 0 ≡ 0
  unfolding arrivals_from
  none_in_none from = refl

  -- a window that ends a tick later
  pub longer : (from : ℤ) (width : ℕ) → arrivals_from phase from (width + 1) ≡ arrivals_from phase from width + arriving (from +ℤ pos width)
  unfolding arrivals_from
  longer from width =
      ap (count_by (λ ticks. arrives_at phase (from +ℤ pos ticks))) (range_more width)
      ∙ sum_by_push (λ ticks. one_if (arrives_at phase (from +ℤ pos ticks))) (range_with_len 0 width) width

  -- and one that begins a tick earlier
  pub earlier : (from : ℤ) (width : ℕ) → arrivals_from phase from (width + 1) ≡ arriving from + arrivals_from phase (from +ℤ pos 1) width
  earlier from zero = omega (
    arith,
    longer from 0,
    ap arriving (no_later from),
    none_in_none from,
    none_in_none (from +ℤ pos 1),
  )
  earlier from (suc width) =
      let more : suc width ≡ width + 1 = omega arith in
      omega (
        arith,
        longer from (suc width),
        earlier from width,
        longer (from +ℤ pos 1) width,
        ap (arrivals_from phase from) more,
        ap (arrivals_from phase (from +ℤ pos 1)) more,
        ap arriving (same_moment from width),
        ap (λ n. arriving (from +ℤ pos n)) more,
      )

  -- at most one job arrives in a tick
  pub few_in_width : (from : ℤ) (width : ℕ) → arrivals_from phase from width ≤ width
  unfolding arrivals_from
  few_in_width from width = omega (
    arith,
    count_by-le-length (λ ticks. arrives_at phase (from +ℤ pos ticks)) (range_with_len 0 width),
    length-range_with_len 0 width,
  )

  -- a wider window has no fewer
  by_more : (from : ℤ) (narrow more : ℕ) → arrivals_from phase from narrow ≤ arrivals_from phase from (narrow + more)
  by_more from narrow zero = let same : narrow + 0 ≡ narrow = omega arith in omega (arith, ap (arrivals_from phase from) same)
  by_more from narrow (suc more) =
      let next : narrow + suc more ≡ narrow + more + 1 = omega arith in
      omega (arith, ap (arrivals_from phase from) next, longer from (narrow + more), by_more from narrow more)

  pub wider_has : (from : ℤ) (narrow wide : ℕ) → narrow ≤ wide → arrivals_from phase from narrow ≤ arrivals_from phase from wide
  wider_has from narrow wide h =
      let rest : narrow + (wide - narrow) ≡ wide = omega (arith, h) in
      omega (arith, by_more from narrow (wide - narrow), ap (arrivals_from phase from) rest)

  -- a tick in which none arrives may be left out
  pub later_has : (from : ℤ) → arrives_at phase from ≡ false → (width : ℕ)
      → arrivals_from phase from width ≤ arrivals_from phase (from +ℤ pos 1) width
  later_has from none width = omega (
    arith,
    wider_has from width (width + 1) (omega arith),
    earlier from width,
    ap one_if none,
  )

  -- whole periods later the same jobs arrive
  module _ (is : IsPhase phase) (ticks : ℕ) (divides : phase.period ∣ ticks) where
    -- whether one arrives is the same
    test_moved : (moment : ℤ) → arrives_at phase (moment +ℤ pos ticks) ≡ arrives_at phase moment
    test_moved moment = same_test moment ticks (since_turn phase (moment +ℤ pos ticks)) (since_turn phase moment)
        (last_in_turn phase (since_turn phase (moment +ℤ pos ticks))) (last_in_turn phase (since_turn phase moment))
        (last_moved phase is ticks divides moment)
      where
        as_far : (moment : ℤ) (ticks after before last first : ℕ)
            → (((moment +ℤ pos ticks) -ℤ pos after) +ℤ pos last) ≡ (((moment -ℤ pos before) +ℤ pos first) +ℤ pos ticks) → last + before ≡ first + after
        as_far moment ticks after before last first same = omega (arith, ints, same)

        same_test : (moment : ℤ) (ticks after before last first : ℕ)
            → (((moment +ℤ pos ticks) -ℤ pos after) +ℤ pos last) ≡ (((moment -ℤ pos before) +ℤ pos first) +ℤ pos ticks) → (last == after) ≡ (first == before)
        same_test moment ticks after before last first same =
            let far = as_far moment ticks after before last first same in
            grind (arith, nat_tests, far)

    moved_on : (from : ℤ) (width : ℕ) → ((from +ℤ pos ticks) +ℤ pos width) ≡ ((from +ℤ pos width) +ℤ pos ticks)
    moved_on from width = omega (arith, ints)

    -- and so is how many do
    pub comes_round : (from : ℤ) (width : ℕ) → arrivals_from phase (from +ℤ pos ticks) width ≡ arrivals_from phase from width
    comes_round from zero = none_in_none (from +ℤ pos ticks) ∙ sym (none_in_none from)
    comes_round from (suc width) =
        let more : suc width ≡ width + 1 = omega arith in
        omega (
          arith,
          ap (arrivals_from phase from) more,
          ap (arrivals_from phase (from +ℤ pos ticks)) more,
          longer from width,
          longer (from +ℤ pos ticks) width,
          comes_round from width,
          ap arriving (moved_on from width),
          ap one_if (test_moved (from +ℤ pos width)),
        )
