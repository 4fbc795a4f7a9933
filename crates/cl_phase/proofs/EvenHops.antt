-- Walks that change evenly from start to start do so after a hop too, if its two ends lie even turns apart. Times are in ticks.
use Rattle.std.proofs.Common.{◌≡◌, ℕ, ◌+◌, ◌-◌, ◌*◌, ◌/◌, ◌<◌, ◌≤◌, inl, inr, ℤ, pos, ◌+ℤ◌, ◌-ℤ◌, ◌≤ℤ◌, List, length, refl, ap, sym, ◌∙◌, subst, arith}
use Rattle.std.proofs.Math.Nat.{div-mul_cancel, dvd-mul_left, dvd-mul_left_of_dvd, mul-le-mul_left}
use Rattle.std.proofs.lemmas.Bool.{cases_lt}
use Rattle.std.proofs.lemmas.Int.{ints}
use Rattle.cl_phase.specs.{declared.{pace.Pace.{Pace, TheVariants.{Kept, Free}}, stop.Stop.Stop}, Pace.{IsPace, PaceComesRound, first_from, last_by, previous}, Walks.{pace_at, lag_at, onward, back, last_place, arrival_at_last, arrival_at_first}, Inner.Ranges.AreStopsInRange}
use Rattle.cl_phase.specs.Inner.Even.{AreEvenTurns, LeadsEvenly}
use Rattle.cl_phase.proofs.{PaceSteps.paces_step, WalkRanges.{goes_on, onward_more, back_more}, WalksBothWays.{first_rises, last_rises}}

-- ---- what a step is

-- a step of a pace: of two moments the later leads no less far, and whole turns later it leads so many ticks further
pub record IsStep (pace : Pace) (step : ℤ → ℤ) : Type 0 where
  pub rises : (moment later : ℤ) → moment ≤ℤ later → step moment ≤ℤ step later
  pub moves : (ticks : ℕ) → PaceComesRound ticks pace → (moment : ℤ) → step (moment +ℤ pos ticks) ≡ (step moment +ℤ pos ticks)

first_steps : (pace : Pace) → IsPace pace → IsStep pace (λ moment. first_from pace moment)
first_steps pace is = record { rises = first_rises pace (paces_step pace is); moves = (paces_step pace is).first_moves }

last_steps : (pace : Pace) → IsPace pace → IsStep pace (λ moment. last_by pace moment)
last_steps pace is = record { rises = last_rises pace (paces_step pace is); moves = (paces_step pace is).last_moves }

-- ---- between two moments

-- so many times more of the greater of two numbers
pub times_more : (done strides before turns : ℕ) → done ≤ strides → before ≤ turns
    → (done * before ≤ done * turns) × (strides * before + done * turns ≤ strides * turns + done * before)
times_more done strides before turns within fewer =
    let rest = strides - done in
    let whole : strides ≡ done + rest = omega (arith, within) in
    let one : (done + rest) * before ≡ done * before + rest * before = omega arith in
    let other : (done + rest) * turns ≡ done * turns + rest * turns = omega arith in (
      mul-le-mul_left done fewer,
      omega (arith, ap (λ n. n * before) whole, ap (λ n. n * turns) whole, one, other, mul-le-mul_left rest fewer),
    )

module _ (pace : Pace) (step : ℤ → ℤ) (is : IsStep pace step) (before turns strides : ℕ) (round : (times : ℕ) → PaceComesRound (times * turns) pace) (moment : ℤ)
    (ends : step (moment +ℤ pos (strides * before)) ≡ (step moment +ℤ pos (strides * turns))) where
  -- a moment so many strides on, as many turns back
  held : ℕ → ℤ
  held done = (moment +ℤ pos (done * before)) -ℤ pos (done * turns)

  moved : (done : ℕ) → step (moment +ℤ pos (done * before)) ≡ (step (held done) +ℤ pos (done * turns))
  unfolding held
  moved done =
      let back : (moment +ℤ pos (done * before)) ≡ (held done +ℤ pos (done * turns)) = omega (arith, ints) in
      ap step back ∙ is.moves (done * turns) (round done) (held done)

  same : (a b : ℤ) (n : ℕ) {c : ℤ} → c ≡ (a +ℤ pos n) → c ≡ (b +ℤ pos n) → a ≡ b
  same a b n one other = omega (arith, ints, one, other)

  at_end : step (held strides) ≡ step moment
  at_end = same (step (held strides)) (step moment) (strides * turns) (moved strides) ends

  equal : (a b c : ℤ) → a ≤ℤ b → b ≤ℤ c → a ≡ c → b ≡ c
  equal a b c h k l = omega (arith, ints, h, k, l)

  equal' : (a b c : ℤ) → c ≤ℤ b → b ≤ℤ a → a ≡ c → b ≡ c
  equal' a b c h k l = omega (arith, ints, h, k, l)

  stays : (done : ℕ) → done ≤ strides → step (held done) ≡ step moment
  unfolding held
  stays done within = elim (cases_lt turns before) [
    | inl fewer ↦
        let few : turns ≤ before = omega (arith, fewer) in
        let (less, more) = times_more done strides turns before within few in
        equal' (step (held strides)) (step (held done)) (step moment)
        (is.rises moment (held done) (omega (arith, ints, less))) (is.rises (held done) (held strides) (omega (arith, ints, more))) at_end
    | inr few ↦
        let (less, more) = times_more done strides before turns within few in
        equal (step (held strides)) (step (held done)) (step moment)
        (is.rises (held strides) (held done) (omega (arith, ints, more))) (is.rises (held done) moment (omega (arith, ints, less))) at_end
  ]

  pub between : (done : ℕ) → done ≤ strides → step (moment +ℤ pos (done * before)) ≡ (step moment +ℤ pos (done * turns))
  between done within = moved done ∙ ap (λ z. z +ℤ pos (done * turns)) (stays done within)

-- ---- a hop

pub comes_round_again : (pace : Pace) (turns : ℕ) → PaceComesRound turns pace → (times : ℕ) → PaceComesRound (times * turns) pace
comes_round_again (Kept phase) turns round times = dvd-mul_left_of_dvd phase.period round times
comes_round_again (Free greatest) turns round times = tt

swapped : (strides turns period : ℕ) → strides * (turns * period) ≡ turns * (strides * period)
swapped strides turns period = omega arith

-- moments that change evenly lead to moments that do so, if the first and the last lead to moments even turns apart
pub hop_evenly : (pace : Pace) (step : ℤ → ℤ) → IsStep pace step → (moment : ℤ → ℤ) (before arrival stride strides apart : ℕ) → 1 ≤ strides
    → ((done : ℕ) → done ≤ strides → moment (pos (arrival + done * stride)) ≡ (moment (pos arrival) +ℤ pos (done * before)))
    → step (moment (pos (arrival + strides * stride))) ≡ (step (moment (pos arrival)) +ℤ pos apart) → AreEvenTurns pace apart strides
    → LeadsEvenly pace (λ from. step (moment from)) arrival stride strides
hop_evenly (Kept phase) step is moment before arrival stride strides apart some evenly ends even =
    let times = apart / (strides * phase.period) in
    let turns = times * phase.period in
    let whole : strides * turns ≡ apart = swapped strides times phase.period ∙ div-mul_cancel (strides * phase.period) even in
    let here = moment (pos arrival) in
    let at_end : step (here +ℤ pos (strides * before)) ≡ (step here +ℤ pos (strides * turns)) =
    ap step (sym (evenly strides (omega arith))) ∙ ends ∙ ap (λ n. step here +ℤ pos n) (sym whole) in
    let round : PaceComesRound turns (Kept phase) = dvd-mul_left phase.period times in
    record {
      turns = turns;
      round = round;
      evenly = λ done within. ap step (evenly done within)
          ∙ between (Kept phase) step is before turns strides (comes_round_again (Kept phase) turns round) here at_end done within;
    }
hop_evenly (Free greatest) step is moment before arrival stride strides apart some evenly ends even = record {
  turns = before;
  round = tt;
  evenly = λ done within. ap step (evenly done within) ∙ is.moves (done * before) tt (moment (pos arrival));
}

-- ---- walks

pub leads_as : (pace : Pace) (walk other : ℤ → ℤ) (arrival stride strides : ℕ) → ((from : ℤ) → other from ≡ walk from)
    → LeadsEvenly pace walk arrival stride strides → LeadsEvenly pace other arrival stride strides
leads_as pace walk other arrival stride strides same leads = record {
  turns = leads.turns;
  round = leads.round;
  evenly = λ done within. same (pos (arrival + done * stride)) ∙ leads.evenly done within ∙ ap (λ z. z +ℤ pos (done * leads.turns)) (sym (same (pos arrival)));
}

-- where a walk starts
pub starts_evenly : (pace : Pace) (arrival stride strides : ℕ) → PaceComesRound stride pace → LeadsEvenly pace (λ from. from) arrival stride strides
starts_evenly pace arrival stride strides round = record {
  turns = stride;
  round = round;
  evenly = λ done within. refl;
}

not_less : (moment later : ℤ) (more : ℕ) → later ≡ (moment +ℤ pos more) → moment ≤ℤ later
not_less moment later more is = omega (arith, ints, is)

in_order : (one other : ℤ) {here there : ℤ} → one ≡ here → other ≡ there → here ≤ℤ there → one ≤ℤ other
in_order one other is is' ordered = omega (arith, ints, is, is', ordered)

shifted : (moved moment more lag : ℤ) → moved ≡ (moment +ℤ more) → (moved +ℤ lag) ≡ ((moment +ℤ lag) +ℤ more)
shifted moved moment more lag is = omega (arith, ints, is)

shifted_back : (moved moment more lag : ℤ) → moved ≡ (moment +ℤ more) → (moved -ℤ lag) ≡ ((moment -ℤ lag) +ℤ more)
shifted_back moved moment more lag is = omega (arith, ints, is)

-- where the walk onward from an arrival has come after so many hops
unfoldable pub onward_to : List Stop → (place hops : ℕ) → (from : ℤ) → ℤ
onward_to stops place hops from = onward stops place from hops

-- and the walk back from the arrival before it
unfoldable pub back_to : List Stop → (place hops : ℕ) → (from : ℤ) → ℤ
back_to stops place hops from = back stops place (previous (pace_at stops place) from) hops

module _ (stops : List Stop) (are : AreStopsInRange stops) (place : ℕ) where
  -- one more hop onward
  onward_hop : (here : ℕ) → place + 1 ≤ here → (from : ℤ)
      → onward_to stops place (here + 1 - (place + 1)) from ≡ first_from (pace_at stops here) (onward_to stops place (here - (place + 1)) from +ℤ lag_at stops (here - 1))
  unfolding onward_to
  onward_hop here after from = onward_more stops place from here after

  -- and back
  back_hop : (here : ℕ) → 1 ≤ here → here ≤ place → (from : ℤ)
      → back_to stops place (place - (here - 1)) from ≡ last_by (pace_at stops (here - 1)) (back_to stops place (place - here) from -ℤ lag_at stops (here - 1))
  unfolding back_to
  back_hop here some within from = back_more stops place (previous (pace_at stops place) from) here some within

  module _ (arrival stride strides : ℕ) where
    pub onward_begins : PaceComesRound stride (pace_at stops place) → LeadsEvenly (pace_at stops (place + 1 - 1)) (onward_to stops place (place + 1 - (place + 1))) arrival stride strides
    unfolding onward_to onward
    onward_begins round =
        let here : place + 1 - 1 ≡ place = omega arith in
        let none : place + 1 - (place + 1) ≡ 0 = omega arith in
        let begins = starts_evenly (pace_at stops place) arrival stride strides round in
        leads_as (pace_at stops (place + 1 - 1)) (λ from. from) (onward_to stops place (place + 1 - (place + 1))) arrival stride strides
        (λ from. ap (onward stops place from) none)
        (subst (λ n. LeadsEvenly (pace_at stops n) (λ from. from) arrival stride strides) (sym here) begins)

    pub back_begins : IsPace (pace_at stops place) → PaceComesRound stride (pace_at stops place) → LeadsEvenly (pace_at stops place) (back_to stops place (place - place)) arrival stride strides
    unfolding back_to back
    back_begins is round =
        let pace = pace_at stops place in
        let none : place - place ≡ 0 = omega arith in
        leads_as pace (λ from. previous pace from) (back_to stops place (place - place)) arrival stride strides
        (λ from. ap (back stops place (previous pace from)) none)
        (record {
          turns = stride;
          round = round;
          evenly = λ done within. ap (last_by pace) (shifted_back (pos (arrival + done * stride)) (pos arrival) (pos (done * stride)) (pos 1) (omega (arith, ints)))
              ∙ (paces_step pace is).last_moves (done * stride) (comes_round_again pace stride round done) (pos arrival -ℤ pos 1);
        })

    module _ (some : 1 ≤ strides) where
      -- the walks onward by one more hop
      pub onward_evenly : (here apart : ℕ) (one other : ℤ) → place + 1 ≤ here → here < length stops
          → LeadsEvenly (pace_at stops (here - 1)) (onward_to stops place (here - (place + 1))) arrival stride strides
          → one ≡ onward_to stops place (here + 1 - (place + 1)) (pos arrival)
          → other ≡ onward_to stops place (here + 1 - (place + 1)) (pos (arrival + strides * stride))
          → (one ≤ℤ other → other ≡ (one +ℤ pos apart)) → AreEvenTurns (pace_at stops here) apart strides
          → LeadsEvenly (pace_at stops here) (onward_to stops place (here + 1 - (place + 1))) arrival stride strides
      onward_evenly here apart one other after within leads one_is other_is ends even =
          let pace = pace_at stops here in
          let lag = lag_at stops (here - 1) in
          let walk = onward_to stops place (here - (place + 1)) in
          let hop = onward_hop here after in
          let step = first_steps pace (goes_on pace (are.paces here within)) in
          let evenly = λ (done : ℕ) (up : done ≤ strides). shifted _ _ (pos (done * leads.turns)) lag (leads.evenly done up) in
          let one_at = one_is ∙ hop (pos arrival) in
          let other_at = other_is ∙ hop (pos (arrival + strides * stride)) in
          let ordered = in_order one other one_at other_at (step.rises _ _ (not_less _ _ (strides * leads.turns) (evenly strides (omega arith)))) in
          leads_as pace (λ from. first_from pace (walk from +ℤ lag)) (onward_to stops place (here + 1 - (place + 1))) arrival stride strides hop
          (hop_evenly pace (λ moment. first_from pace moment) step (λ from. walk from +ℤ lag) leads.turns arrival stride strides apart some evenly
          (sym other_at ∙ ends ordered ∙ ap (λ z. z +ℤ pos apart) one_at) even)

      -- and the walks back
      pub back_evenly : (here apart : ℕ) (one other : ℤ) → 1 ≤ here → here ≤ place → place < length stops
          → LeadsEvenly (pace_at stops here) (back_to stops place (place - here)) arrival stride strides
          → one ≡ back_to stops place (place - (here - 1)) (pos arrival)
          → other ≡ back_to stops place (place - (here - 1)) (pos (arrival + strides * stride))
          → (one ≤ℤ other → other ≡ (one +ℤ pos apart)) → AreEvenTurns (pace_at stops (here - 1)) apart strides
          → LeadsEvenly (pace_at stops (here - 1)) (back_to stops place (place - (here - 1))) arrival stride strides
      back_evenly here apart one other after within inside leads one_is other_is ends even =
          let pace = pace_at stops (here - 1) in
          let lag = lag_at stops (here - 1) in
          let walk = back_to stops place (place - here) in
          let hop = back_hop here after within in
          let step = last_steps pace (goes_on pace (are.paces (here - 1) (omega (arith, within, inside)))) in
          let evenly = λ (done : ℕ) (up : done ≤ strides). shifted_back _ _ (pos (done * leads.turns)) lag (leads.evenly done up) in
          let one_at = one_is ∙ hop (pos arrival) in
          let other_at = other_is ∙ hop (pos (arrival + strides * stride)) in
          let ordered = in_order one other one_at other_at (step.rises _ _ (not_less _ _ (strides * leads.turns) (evenly strides (omega arith)))) in
          leads_as pace (λ from. last_by pace (walk from -ℤ lag)) (back_to stops place (place - (here - 1))) arrival stride strides hop
          (hop_evenly pace (λ moment. last_by pace moment) step (λ from. walk from -ℤ lag) leads.turns arrival stride strides apart some evenly
          (sym other_at ∙ ends ordered ∙ ap (λ z. z +ℤ pos apart) one_at) even)

    -- at the last group
    pub onward_ends : (hops here : ℕ) → hops ≡ last_place stops - place → here ≡ last_place stops → LeadsEvenly (pace_at stops here) (onward_to stops place hops) arrival stride strides
        → LeadsEvenly (pace_at stops (last_place stops)) (λ from. arrival_at_last stops place from) arrival stride strides
    unfolding onward_to
    onward_ends hops here all last leads =
        leads_as (pace_at stops (last_place stops)) (onward_to stops place hops) (λ from. arrival_at_last stops place from) arrival stride strides
        (λ from. ap (onward stops place from) (sym all))
        (subst (λ n. LeadsEvenly (pace_at stops n) (onward_to stops place hops) arrival stride strides) last leads)

    -- and at the first
    pub back_ends : (here : ℕ) → here ≡ 0 → LeadsEvenly (pace_at stops here) (back_to stops place (place - here)) arrival stride strides
        → LeadsEvenly (pace_at stops 0) (λ from. arrival_at_first stops place from) arrival stride strides
    unfolding back_to
    back_ends here none leads =
        let all : place - here ≡ place = omega (arith, none) in
        leads_as (pace_at stops 0) (back_to stops place (place - here)) (λ from. arrival_at_first stops place from) arrival stride strides
        (λ from. ap (back stops place (previous (pace_at stops place) from)) (sym all))
        (subst (λ n. LeadsEvenly (pace_at stops n) (back_to stops place (place - here)) arrival stride strides) none leads)
