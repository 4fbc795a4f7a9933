-- Which arrivals of a phase are neighbours: two jobs of a period, and the last of one and the first of the next.
use Rattle.std.proofs.Common.{◌≡◌, ℕ, suc, ◌+◌, ◌-◌, ◌*◌, ◌<◌, ◌≤◌, ℤ, pos, ◌+ℤ◌, ◌-ℤ◌, ◌*ℤ◌, ◌≤ℤ◌, refl, ap, subst, arith, mul-le-mul_right}
use Rattle.std.proofs.lemmas.Int.{ints}
use Rattle.cl_stim.specs.{declared.phase.Phase.Phase, Phase.{IsPhase, IsArrivalOf, AreConsecutive, last_arrival}}
use Rattle.cl_stim.proofs.{TurnFacts.{multiples_ordered, place_by_final, final_fits, period_some}, PhaseSteps.{begin, in_order, turn_more, arrival_lies, last_arrives, last_before, last_after}}

same_both : (a b : ℤ) → a ≤ℤ b → b ≤ℤ a → a ≡ b
same_both a b h k = omega (arith, ints, h, k)

ahead : (from : ℤ) (m n : ℕ) → m ≤ n → (from +ℤ pos m) ≤ℤ (from +ℤ pos n)
ahead from m n h = omega (arith, ints, h)

-- two moments at so many ticks of periods
at_most : (a from to : ℤ) (m n : ℕ) → a ≡ (from +ℤ pos m) → from ≡ to → m ≤ n → a ≤ℤ (to +ℤ pos n)
at_most a from to m n is same h = omega (arith, ints, is, same, h)

earlier : (a from to : ℤ) (m n period : ℕ) → a ≡ (from +ℤ pos m) → (from +ℤ pos period) ≤ℤ to → m < period → a ≤ℤ (to +ℤ pos n)
earlier a from to m n period is before h = omega (arith, ints, is, before, h)

tick_before : (from : ℤ) (m n : ℕ) → suc m ≡ n → (from +ℤ pos m) ≡ ((from +ℤ pos n) -ℤ pos 1)
tick_before from m n h = omega (arith, ints, h)

tick_before_next : (offset base other : ℤ) (m period k : ℕ) → suc m ≡ period → (base +ℤ pos period) ≡ other
    → ((offset +ℤ base) +ℤ pos m) ≡ (((offset +ℤ other) +ℤ pos (0 * k)) -ℤ pos 1)
tick_before_next offset base other m period k is more = omega (arith, ints, is, more)

module _ (phase : Phase) (is : IsPhase phase) (turn : ℤ) (place : ℕ) (within : place < phase.count) where
  -- when the job of this place of this period arrives
  abbrev here : ℤ
  here = begin phase turn +ℤ pos (place * phase.distance)

  -- it is the last until another job of the period arrives
  last_until : (ticks : ℕ) → ticks < phase.period → place * phase.distance ≤ ticks
      → ((other : ℕ) → other < phase.count → other * phase.distance ≤ ticks → other * phase.distance ≤ place * phase.distance)
      → here ≡ last_arrival phase (begin phase turn +ℤ pos ticks)
  last_until ticks inside after none = same_both here last
      (last_after phase is moment here (record { turn = turn; place = place; within = within; arrives = refl }) (ahead (begin phase turn) _ _ after))
      (in_order phase arrives.turn turn (arrives.place * phase.distance) ticks last moment
      (arrival_lies phase is last arrives) (record { within = inside; lies = refl }) (last_before phase is moment)
      (λ one ordered. at_most last _ _ _ _ arrives.arrives (ap (begin phase) one) (none arrives.place arrives.within ordered))
      (λ later. earlier last _ _ _ _ phase.period arrives.arrives later (arrival_lies phase is last arrives).within))
    where
      moment : ℤ
      moment = begin phase turn +ℤ pos ticks

      last : ℤ
      last = last_arrival phase moment

      arrives : IsArrivalOf phase last
      arrives = last_arrives phase is moment

  -- the next job of the period comes after it
  pub next_in_turn : suc place < phase.count → AreConsecutive phase here (begin phase turn +ℤ pos (suc place * phase.distance))
  next_in_turn more =
      let next : suc place * phase.distance ≡ place * phase.distance + phase.distance = omega arith in
      let ticks = place * phase.distance + phase.distance - 1 in
      let before : suc ticks ≡ suc place * phase.distance = omega (arith, next, is.apart) in (
        record { turn = turn; place = suc place; within = more; arrives = refl },
        subst (λ moment. here ≡ last_arrival phase moment) (tick_before (begin phase turn) ticks _ before)
            (last_until ticks (omega (arith, before, place_by_final phase is (suc place) more, final_fits phase is)) (omega (arith, is.apart))
            (λ other inside until. mul-le-mul_right phase.distance (multiples_ordered phase.distance other place (omega (arith, until, is.apart))))),
      )

  -- or, where it is the last, the first job of the next period
  pub next_of_turn : suc place ≡ phase.count → AreConsecutive phase here (begin phase (turn +ℤ pos 1) +ℤ pos (0 * phase.distance))
  next_of_turn final =
      let last : phase.count - 1 ≡ place = omega (arith, final) in
      let ticks = phase.period - 1 in
      let before : suc ticks ≡ phase.period = omega (arith, period_some phase is) in (
        record { turn = turn +ℤ pos 1; place = 0; within = omega (arith, is.some); arrives = refl },
        subst (λ moment. here ≡ last_arrival phase moment)
            (tick_before_next (pos phase.offset) (turn *ℤ pos phase.period) ((turn +ℤ pos 1) *ℤ pos phase.period) ticks phase.period phase.distance
            before (turn_more turn phase.period))
            (last_until ticks (omega (arith, before)) (omega (arith, ap (λ n. n * phase.distance) last, final_fits phase is, is.apart))
            (λ other inside until. mul-le-mul_right phase.distance (omega (arith, inside, final)))),
      )
