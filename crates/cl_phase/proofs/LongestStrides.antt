-- The longest of the walks that start whole strides apart. Times are in ticks.
use Rattle.std.proofs.Common.{◌≡◌, ℕ, zero, suc, ◌+◌, ◌-◌, ◌*◌, ◌≤◌, ◌⊎◌, inl, inr, max, ℤ, pos, ◌+ℤ◌, ◌-ℤ◌, List, length, refl, ap, sym, ◌∙◌, subst, arith}
use Rattle.std.proofs.lemmas.Bool.{cases_lt}
use Rattle.std.proofs.lemmas.Int.{ints}
use Rattle.cl_phase.specs.{declared.{stop.Stop.Stop, walk.{Ends.Ends, Longest.Longest}}, Pace.{previous, next}, Walks.{pace_at, last_place, arrival_at_last, arrival_at_first}, TightBounds.ticks_or_none, Inner.{Longest.{span_between, lengths_at, longer_of}, Even.LeadsEvenly}}
use Rattle.cl_phase.specs.Inner.Scanned.{AreNoLonger, AreLongestFrom, IsInStrides}
use Rattle.cl_phase.proofs.{EvenHops.{times_more, comes_round_again}, Stepped.IsStepped, DelaySteps.next_moves, WalksMove.previous_moves, WiderWalks.ticks_rise}

-- ---- what changes evenly is greatest at an end

ticks_between : (a : ℤ) (up down done strides : ℕ) → done ≤ strides
    → ticks_or_none ((a +ℤ pos (done * up)) -ℤ pos (done * down)) ≤ max (ticks_or_none a) (ticks_or_none ((a +ℤ pos (strides * up)) -ℤ pos (strides * down)))
ticks_between a up down done strides within = elim (cases_lt down up) [
  | inl less ↦
      let few : down ≤ up = omega (arith, less) in
      let (_, more) = times_more done strides down up within few in
      let rise = ticks_rise ((a +ℤ pos (done * up)) -ℤ pos (done * down)) ((a +ℤ pos (strides * up)) -ℤ pos (strides * down)) (omega (arith, ints, more)) in
      omega (arith, rise)
  | inr few ↦
      let (less, _) = times_more done strides up down within few in
      let rise = ticks_rise ((a +ℤ pos (done * up)) -ℤ pos (done * down)) a (omega (arith, ints, less)) in
      omega (arith, rise)
]

-- how far apart two moments are that move
moved_apart : (last first span : ℤ) {last' first' : ℤ} (up down : ℕ) → last' ≡ (last +ℤ pos up) → first' ≡ (first +ℤ pos down)
    → ((last' -ℤ first') +ℤ span) ≡ ((((last -ℤ first) +ℤ span) +ℤ pos up) -ℤ pos down)
moved_apart last first span up down one other = omega (arith, ints, one, other)

module _ (last first : ℕ → ℤ) (span : ℤ) (up down strides : ℕ)
    (lasts : (done : ℕ) → done ≤ strides → last done ≡ (last 0 +ℤ pos (done * up)))
    (firsts : (done : ℕ) → done ≤ strides → first done ≡ (first 0 +ℤ pos (done * down))) where
  apart_at : (done : ℕ) → done ≤ strides → ((last done -ℤ first done) +ℤ span) ≡ ((((last 0 -ℤ first 0) +ℤ span) +ℤ pos (done * up)) -ℤ pos (done * down))
  apart_at done within = moved_apart (last 0) (first 0) span (done * up) (done * down) (lasts done within) (firsts done within)

  apart_between : (done : ℕ) → done ≤ strides
      → ticks_or_none ((last done -ℤ first done) +ℤ span) ≤ max (ticks_or_none ((last 0 -ℤ first 0) +ℤ span)) (ticks_or_none ((last strides -ℤ first strides) +ℤ span))
  apart_between done within =
      rw (apart_at done within, apart_at strides (omega arith)) (ticks_between ((last 0 -ℤ first 0) +ℤ span) up down done strides within)

-- ---- walks that change evenly

module _ (stops : List Stop) (ends : Ends) (place arrival stride strides : ℕ)
    (last_steps : IsStepped (pace_at stops (last_place stops))) (first_steps : IsStepped (pace_at stops 0))
    (onward : LeadsEvenly (pace_at stops (last_place stops)) (λ from. arrival_at_last stops place from) arrival stride strides)
    (back : LeadsEvenly (pace_at stops 0) (λ from. arrival_at_first stops place from) arrival stride strides) where
  start : (done : ℕ) → ℤ
  start done = pos (arrival + done * stride)

  begin : start 0 ≡ pos arrival
  unfolding start
  begin =
      let none : arrival + 0 * stride ≡ arrival = omega arith in
      ap pos none

  lasts : (done : ℕ) → done ≤ strides → arrival_at_last stops place (start done) ≡ (arrival_at_last stops place (start 0) +ℤ pos (done * onward.turns))
  unfolding start
  lasts done within = onward.evenly done within ∙ ap (λ z. arrival_at_last stops place z +ℤ pos (done * onward.turns)) (sym begin)

  firsts : (done : ℕ) → done ≤ strides → arrival_at_first stops place (start done) ≡ (arrival_at_first stops place (start 0) +ℤ pos (done * back.turns))
  unfolding start
  firsts done within = back.evenly done within ∙ ap (λ z. arrival_at_first stops place z +ℤ pos (done * back.turns)) (sym begin)

  befores : (done : ℕ) → done ≤ strides → previous (pace_at stops (last_place stops)) (arrival_at_last stops place (start done))
      ≡ (previous (pace_at stops (last_place stops)) (arrival_at_last stops place (start 0)) +ℤ pos (done * onward.turns))
  befores done within = previous_moves (pace_at stops (last_place stops)) last_steps (done * onward.turns)
      (comes_round_again (pace_at stops (last_place stops)) onward.turns onward.round done) _ _ (lasts done within)

  nexts : (done : ℕ) → done ≤ strides → next (pace_at stops 0) (arrival_at_first stops place (start done))
      ≡ (next (pace_at stops 0) (arrival_at_first stops place (start 0)) +ℤ pos (done * back.turns))
  nexts done within = next_moves (pace_at stops 0) first_steps (done * back.turns)
      (comes_round_again (pace_at stops 0) back.turns back.round done) _ _ (firsts done within)

  -- none is longer than both the first and the last
  pub even_within : (done : ℕ) → done ≤ strides
      → AreNoLonger (lengths_at stops ends place (pos (arrival + done * stride)))
      (longer_of (lengths_at stops ends place (pos (arrival + 0 * stride))) (lengths_at stops ends place (pos (arrival + strides * stride))))
  unfolding start
  even_within done within =
      let last : ℕ → ℤ = λ n. arrival_at_last stops place (pos (arrival + n * stride)) in
      let first : ℕ → ℤ = λ n. arrival_at_first stops place (pos (arrival + n * stride)) in
      let before : ℕ → ℤ = λ n. previous (pace_at stops (last_place stops)) (last n) in
      let after : ℕ → ℤ = λ n. next (pace_at stops 0) (first n) in
      record {
        length = apart_between last first (span_between ends) onward.turns back.turns strides lasts firsts done within;
        reduced = apart_between before first (span_between ends) onward.turns back.turns strides befores firsts done within;
        delay = apart_between last after (pos ends.write) onward.turns back.turns strides lasts nexts done within;
      }

-- ---- the longest so far

pub within_both : (one other most : Longest) → AreNoLonger one most → AreNoLonger other most → AreNoLonger (longer_of one other) most
within_both one other most h k = record {
  length = omega (arith, h.length, k.length);
  reduced = omega (arith, h.reduced, k.reduced);
  delay = omega (arith, h.delay, k.delay);
}

pub within_one : (lengths one other : Longest) → AreNoLonger lengths one → AreNoLonger lengths (longer_of one other)
within_one lengths one other h = record {
  length = omega (arith, h.length);
  reduced = omega (arith, h.reduced);
  delay = omega (arith, h.delay);
}

pub within_other : (lengths one other : Longest) → AreNoLonger lengths other → AreNoLonger lengths (longer_of one other)
within_other lengths one other h = record {
  length = omega (arith, h.length);
  reduced = omega (arith, h.reduced);
  delay = omega (arith, h.delay);
}

pub within_itself : (lengths : Longest) → AreNoLonger lengths lengths
within_itself lengths = record { length = omega arith; reduced = omega arith; delay = omega arith }

within_all : (one other most : Longest) → AreNoLonger one other → AreNoLonger other most → AreNoLonger one most
within_all one other most h k = record {
  length = omega (arith, h.length, k.length);
  reduced = omega (arith, h.reduced, k.reduced);
  delay = omega (arith, h.delay, k.delay);
}

module _ (stops : List Stop) (ends : Ends) (place : ℕ) where
  abbrev at : ℕ → Longest
  at start = lengths_at stops ends place (pos start)

  -- those of two kinds of starts
  pub either_longest : (Some Others All : ℕ → Type 0) (one other : Longest) → AreLongestFrom stops ends place Some one → AreLongestFrom stops ends place Others other
      → ((start : ℕ) → Some start → All start) → ((start : ℕ) → Others start → All start) → ((start : ℕ) → All start → Some start ⊎ Others start)
      → AreLongestFrom stops ends place All (longer_of one other)
  either_longest Some Others All one other some others in_some in_others covers = record {
    no_longer = λ start is. elim (covers start is) [
      | inl h ↦ within_one (at start) one other (some.no_longer start h)
      | inr h ↦ within_other (at start) one other (others.no_longer start h)
    ];
    least = λ most within. within_both one other most (some.least most (λ start is. within start (in_some start is))) (others.least most (λ start is. within start (in_others start is)));
  }

  module _ (first stride : ℕ) where
    here : (done : ℕ) → IsInStrides first stride done (first + done * stride)
    here done = record { done = done; within = omega arith; is = refl }

    -- the first walk
    pub strides_begin : AreLongestFrom stops ends place (IsInStrides first stride 0) (at first)
    strides_begin = record {
      no_longer = λ start is.
          let none : is.done ≡ 0 = omega (arith, is.within) in
          let product : 0 * stride ≡ 0 = omega arith in
          let same : start ≡ first = is.is ∙ ap (λ n. first + n * stride) none ∙ omega (arith, product) in
          subst (λ n. AreNoLonger (at n) (at first)) (sym same) (within_itself (at first));
      least = λ most within. within first (record { done = 0; within = omega arith; is = omega arith });
    }

    -- and a leap of strides on
    pub strides_leap : (done leap : ℕ) (longest : Longest) → AreLongestFrom stops ends place (IsInStrides first stride done) longest
        → ((more : ℕ) → more ≤ leap → AreNoLonger (at (first + done * stride + more * stride))
        (longer_of (at (first + done * stride)) (at (first + done * stride + leap * stride))))
        → AreLongestFrom stops ends place (IsInStrides first stride (done + leap)) (longer_of longest (at (first + (done + leap) * stride)))
    strides_leap done leap longest so_far even =
        let end = first + (done + leap) * stride in
        let there : first + done * stride + leap * stride ≡ end = omega arith in
        let so_far_here : AreNoLonger (at (first + done * stride)) longest = so_far.no_longer (first + done * stride) (here done) in
        record {
          no_longer = λ start is. elim (cases_lt done is.done) [
            | inl later ↦
                let more = is.done - done in
                let split : done + more ≡ is.done = omega (arith, later) in
                let product : (done + more) * stride ≡ done * stride + more * stride = omega arith in
                let same : start ≡ first + done * stride + more * stride = is.is ∙ ap (λ n. first + n * stride) (sym split) ∙ omega (arith, product) in
                let ends_within = within_both (at (first + done * stride)) (at end) (longer_of longest (at end))
                (within_one (at (first + done * stride)) longest (at end) so_far_here)
                (within_other (at end) longest (at end) (within_itself (at end))) in
                let between = subst (λ n. AreNoLonger (at (first + done * stride + more * stride)) (longer_of (at (first + done * stride)) (at n))) there
                (even more (omega (arith, is.within, split))) in
                subst (λ n. AreNoLonger (at n) (longer_of longest (at end))) (sym same)
                (within_all (at (first + done * stride + more * stride)) (longer_of (at (first + done * stride)) (at end)) (longer_of longest (at end)) between ends_within)
            | inr before ↦ within_one (at start) longest (at end) (so_far.no_longer start (record { done = is.done; within = before; is = is.is }))
          ];
          least = λ most within. within_both longest (at end) most
              (so_far.least most (λ start is. within start (record { done = is.done; within = omega (arith, is.within); is = is.is })))
              (within end (here (done + leap)));
        }

    -- a single stride on nothing lies between
    pub one_within : (done : ℕ) → (more : ℕ) → more ≤ 1
        → AreNoLonger (at (first + done * stride + more * stride)) (longer_of (at (first + done * stride)) (at (first + done * stride + 1 * stride)))
    one_within done zero h =
        let none : first + done * stride + 0 * stride ≡ first + done * stride = omega arith in
        subst (λ n. AreNoLonger (at n) (longer_of (at (first + done * stride)) (at (first + done * stride + 1 * stride)))) (sym none)
        (within_one (at (first + done * stride)) (at (first + done * stride)) (at (first + done * stride + 1 * stride)) (within_itself (at (first + done * stride))))
    one_within done (suc more) h =
        let one : suc more ≡ 1 = omega (arith, h) in
        subst (λ m. AreNoLonger (at (first + done * stride + m * stride)) (longer_of (at (first + done * stride)) (at (first + done * stride + 1 * stride)))) (sym one)
        (within_other (at (first + done * stride + 1 * stride)) (at (first + done * stride)) (at (first + done * stride + 1 * stride))
        (within_itself (at (first + done * stride + 1 * stride))))
