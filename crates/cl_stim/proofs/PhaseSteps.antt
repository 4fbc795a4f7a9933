-- The first arrival of a phase at or after a moment is the first, and the last at or before it the last.
use Rattle.std.proofs.Common.{◌≡◌, ℕ, suc, ◌+◌, ◌-◌, ◌*◌, ◌/◌, ◌%◌, ◌<◌, ◌≤◌, inl, inr, ℤ, pos, negsuc, ◌+ℤ◌, ◌-ℤ◌, ◌*ℤ◌, ◌≤ℤ◌, unsigned_abs, refl, ap, sym, ◌∙◌, subst, arith, mul-le-mul_right}
use Rattle.std.specs.Int.{◌∣◌, int_rem_euclid}
use Rattle.std.proofs.Math.Nat.{div-mul_cancel}
use Rattle.std.proofs.lemmas.Int.{ints, by_lt_z}
use Rattle.std.proofs.lemmas.Nat.{div-add-mod', mod_below}
use Rattle.cl_stim.specs.{declared.phase.Phase.Phase, Phase.{IsPhase, IsArrivalOf, since_turn, first_in_turn, last_in_turn, first_arrival, last_arrival}}
use Rattle.cl_stim.proofs.TurnFacts.{IsJobOfTurn, period_some, place_by_final, final_fits, first_not_before, first_by_next, first_least, first_close, first_is, last_is, last_not_after, last_greatest, last_close}

-- which multiple of a number isn't after an integer, and by how much
quotient : (z : ℤ) (n : ℕ) → ℤ
quotient (pos a) n = pos (a / n)
quotient (negsuc a) n = negsuc (a / n)

divided : (z : ℤ) (n : ℕ) → 1 ≤ n → (z ≡ ((quotient z n *ℤ pos n) +ℤ pos (unsigned_abs (int_rem_euclid z (pos n)))))
    × (unsigned_abs (int_rem_euclid z (pos n)) < n)
unfolding quotient
divided (pos a) n some = (omega (arith, ints, div-add-mod' a n), mod_below a n some)
divided (negsuc a) n some =
    let division : a / n * n + a % n ≡ a = div-add-mod' a n in
    let rest : a % n < n = mod_below a n some in
    let product : suc (a / n) * n ≡ a / n * n + n = omega arith in
    (omega (arith, ints, division, rest, product), omega (arith, rest))

-- when a period of the phase begins
abbrev pub begin : (phase : Phase) → (turn : ℤ) → ℤ
begin phase turn = pos phase.offset +ℤ (turn *ℤ pos phase.period)

-- where a moment lies: so many ticks of a period of the phase have passed
pub record LiesIn (phase : Phase) (turn : ℤ) (since : ℕ) (moment : ℤ) : Type 0 where
  pub within : since < phase.period
  pub lies : moment ≡ (begin phase turn +ℤ pos since)

moment_lies : (offset moment base rest : ℤ) → (moment -ℤ offset) ≡ (base +ℤ rest) → moment ≡ ((offset +ℤ base) +ℤ rest)
moment_lies offset moment base rest same = omega (arith, ints, same)

-- a turn later is a period later or more
scaled : (a b c d n : ℕ) → a + suc b ≤ c + d → a * n + (b * n + n) ≤ c * n + d * n
scaled a b c d n h =
    let left : (a + suc b) * n ≡ a * n + (b * n + n) = omega arith in
    let right : (c + d) * n ≡ c * n + d * n = omega arith in
    omega (arith, left, right, mul-le-mul_right n h)

turn_later : (a b : ℤ) (n : ℕ) → (a +ℤ pos 1) ≤ℤ b → ((a *ℤ pos n) +ℤ pos n) ≤ℤ (b *ℤ pos n)
turn_later (pos a) (pos b) n h = omega (arith, ints, scaled 0 a b 0 n (omega (arith, ints, h)))
turn_later (pos a) (negsuc b) n h = absurd (omega (arith, ints, h))
turn_later (negsuc a) (pos b) n h = omega (arith, ints, scaled 0 0 b (suc a) n (omega (arith, ints, h)))
turn_later (negsuc a) (negsuc b) n h = omega (arith, ints, scaled (suc b) 0 0 (suc a) n (omega (arith, ints, h)))

by_turns : {P : Type 0} (a b : ℤ) → ((a +ℤ pos 1) ≤ℤ b → P) → (a ≡ b → P) → ((b +ℤ pos 1) ≤ℤ a → P) → P
by_turns {P} a b less same more = by_lt_z a b (λ h. less (omega (arith, ints, h)))
    (λ h. by_lt_z b a (λ k. more (omega (arith, ints, k))) (λ k. same (omega (arith, ints, h, k))))

begins_later : (a b : ℤ) (n : ℕ) (offset : ℤ) → (a +ℤ pos 1) ≤ℤ b → ((offset +ℤ (a *ℤ pos n)) +ℤ pos n) ≤ℤ (offset +ℤ (b *ℤ pos n))
begins_later a b n offset h = shifted (a *ℤ pos n) (b *ℤ pos n) (turn_later a b n h)
  where
    shifted : (x y : ℤ) → (x +ℤ pos n) ≤ℤ y → ((offset +ℤ x) +ℤ pos n) ≤ℤ (offset +ℤ y)
    shifted x y h = omega (arith, ints, h)

-- two moments at so many ticks from two others
module _ (from to : ℤ) (since passed : ℕ) (moment later : ℤ) (here : moment ≡ (from +ℤ pos since)) (there : later ≡ (to +ℤ pos passed))
    (ordered : moment ≤ℤ later) where
  further : from ≡ to → since ≤ passed
  further one = omega (arith, ints, one, here, there, ordered)

  apart : (n : ℕ) → (to +ℤ pos n) ≤ℤ from → passed < n → ⊥
  apart n far within = omega (arith, ints, far, within, here, there, ordered)

-- of two moments the later lies further in the same period, or in a later one
pub in_order : {P : Type 0} (phase : Phase) (turn other : ℤ) (since passed : ℕ) (moment later : ℤ)
    → LiesIn phase turn since moment → LiesIn phase other passed later → moment ≤ℤ later
    → (turn ≡ other → since ≤ passed → P) → ((begin phase turn +ℤ pos phase.period) ≤ℤ begin phase other → P) → P
in_order phase turn other since passed moment later here there ordered same after = by_turns turn other
    (λ less. after (begins_later turn other phase.period (pos phase.offset) less))
    (λ one. same one (further (begin phase turn) (begin phase other) since passed moment later here.lies there.lies ordered (ap (begin phase) one)))
    (λ more. absurd (apart (begin phase turn) (begin phase other) since passed moment later here.lies there.lies ordered
    phase.period (begins_later other turn phase.period (pos phase.offset) more) there.within))

-- numbers about a moment, where its period began and how long ago
module _ (moment begun : ℤ) (since ticks : ℕ) (here : moment ≡ (begun +ℤ pos since)) where
  from_begin : ((moment -ℤ pos since) +ℤ pos ticks) ≡ (begun +ℤ pos ticks)
  from_begin = omega (arith, ints, here)

  not_before : since ≤ ticks → moment ≤ℤ ((moment -ℤ pos since) +ℤ pos ticks)
  not_before h = omega (arith, ints, h)

  not_after : ticks ≤ since → ((moment -ℤ pos since) +ℤ pos ticks) ≤ℤ moment
  not_after h = omega (arith, ints, h)

  by_same : (arrival from : ℤ) (passed : ℕ) → arrival ≡ (from +ℤ pos passed) → begun ≡ from → ticks ≤ passed
      → ((moment -ℤ pos since) +ℤ pos ticks) ≤ℤ arrival
  by_same arrival from passed there same h = omega (arith, ints, here, there, same, h)

  from_same : (arrival from : ℤ) (passed : ℕ) → arrival ≡ (from +ℤ pos passed) → from ≡ begun → passed ≤ ticks
      → arrival ≤ℤ ((moment -ℤ pos since) +ℤ pos ticks)
  from_same arrival from passed there same h = omega (arith, ints, here, there, same, h)

  by_later : (arrival from : ℤ) (passed period : ℕ) → arrival ≡ (from +ℤ pos passed) → (begun +ℤ pos period) ≤ℤ from → ticks ≤ period
      → ((moment -ℤ pos since) +ℤ pos ticks) ≤ℤ arrival
  by_later arrival from passed period there later h = omega (arith, ints, here, there, later, h)

  from_later : (arrival from : ℤ) (passed period : ℕ) → arrival ≡ (from +ℤ pos passed) → (from +ℤ pos period) ≤ℤ begun → passed < period
      → arrival ≤ℤ ((moment -ℤ pos since) +ℤ pos ticks)
  from_later arrival from passed period there later h = omega (arith, ints, here, there, later, h)

-- so many turns are as many periods
pub turns_more : (a b : ℤ) (k n : ℕ) → b ≡ (a +ℤ pos k) → ((a *ℤ pos n) +ℤ pos (k * n)) ≡ (b *ℤ pos n)
turns_more (pos a) (pos b) k n is =
    let all : b ≡ a + k = omega (arith, ints, is) in
    let product : (a + k) * n ≡ a * n + k * n = omega arith in
    omega (arith, ints, product, ap (λ m. m * n) all)
turns_more (pos a) (negsuc b) k n is = absurd (omega (arith, ints, is))
turns_more (negsuc a) (pos b) k n is =
    let all : b + suc a ≡ k = omega (arith, ints, is) in
    let product : (b + suc a) * n ≡ b * n + suc a * n = omega arith in
    omega (arith, ints, product, ap (λ m. m * n) all)
turns_more (negsuc a) (negsuc b) k n is =
    let all : suc b + k ≡ suc a = omega (arith, ints, is) in
    let product : (suc b + k) * n ≡ suc b * n + k * n = omega arith in
    omega (arith, ints, product, ap (λ m. m * n) all)

-- the next period begins a period later
pub turn_more : (turn : ℤ) (n : ℕ) → ((turn *ℤ pos n) +ℤ pos n) ≡ ((turn +ℤ pos 1) *ℤ pos n)
turn_more turn n = subst (λ m. ((turn *ℤ pos n) +ℤ pos m) ≡ ((turn +ℤ pos 1) *ℤ pos n)) one (turns_more turn (turn +ℤ pos 1) 1 n refl)
  where
    one : 1 * n ≡ n
    one = omega arith

begins_next : (offset base other : ℤ) (n m : ℕ) → (base +ℤ pos n) ≡ other → ((offset +ℤ base) +ℤ pos n) ≡ ((offset +ℤ other) +ℤ pos (0 * m))
begins_next offset base other n m same = omega (arith, ints, same)

module _ (phase : Phase) (is : IsPhase phase) where
  turn_of : (moment : ℤ) → ℤ
  turn_of moment = quotient (moment -ℤ pos phase.offset) phase.period

  lies_in : (moment : ℤ) → LiesIn phase (turn_of moment) (since_turn phase moment) moment
  unfolding turn_of
  lies_in moment =
      let (same, within) = divided (moment -ℤ pos phase.offset) phase.period (period_some phase is) in
      record { within = within; lies = moment_lies (pos phase.offset) moment _ _ same }

  pub arrival_lies : (arrival : ℤ) (arrives : IsArrivalOf phase arrival) → LiesIn phase arrives.turn (arrives.place * phase.distance) arrival
  arrival_lies arrival arrives = record {
    within = omega (arith, place_by_final phase is arrives.place arrives.within, final_fits phase is, is.apart);
    lies = arrives.arrives;
  }

  -- an arrival at so many ticks of a period
  of_turn : (turn : ℤ) (ticks : ℕ) (arrival : ℤ) → arrival ≡ (begin phase turn +ℤ pos ticks) → IsJobOfTurn phase ticks → IsArrivalOf phase arrival
  of_turn turn ticks arrival at job = record {
    turn = turn;
    place = job.place;
    within = job.within;
    arrives = at ∙ ap (λ n. begin phase turn +ℤ pos n) job.arrives;
  }

  of_next : (turn : ℤ) (ticks : ℕ) (arrival : ℤ) → arrival ≡ (begin phase turn +ℤ pos ticks) → ticks ≡ phase.period → IsArrivalOf phase arrival
  of_next turn ticks arrival at next = record {
    turn = turn +ℤ pos 1;
    place = 0;
    within = omega (arith, is.some);
    arrives = at ∙ ap (λ n. begin phase turn +ℤ pos n) next
        ∙ begins_next (pos phase.offset) (turn *ℤ pos phase.period) ((turn +ℤ pos 1) *ℤ pos phase.period) phase.period phase.distance (turn_more turn phase.period);
  }

  module _ (moment : ℤ) where
    abbrev since : ℕ
    since = since_turn phase moment

    here : LiesIn phase (turn_of moment) since moment
    here = lies_in moment

    -- ---- the first arrival at or after a moment

    first_at : first_arrival phase moment ≡ (begin phase (turn_of moment) +ℤ pos (first_in_turn phase since))
    first_at = from_begin moment _ since _ here.lies

    pub first_arrives : IsArrivalOf phase (first_arrival phase moment)
    first_arrives = elim (first_is phase is since here.within) [
      | inl job ↦ of_turn (turn_of moment) _ _ first_at job
      | inr next ↦ of_next (turn_of moment) _ _ first_at next
    ]

    pub first_after : moment ≤ℤ first_arrival phase moment
    first_after = not_before moment _ since _ here.lies (first_not_before phase is since here.within)

    pub first_before : (arrival : ℤ) → IsArrivalOf phase arrival → moment ≤ℤ arrival → first_arrival phase moment ≤ℤ arrival
    first_before arrival arrives after =
        let there = arrival_lies arrival arrives in
        in_order phase (turn_of moment) arrives.turn since (arrives.place * phase.distance) moment arrival here there after
        (λ one ordered. by_same moment _ since _ here.lies arrival _ _ there.lies (ap (begin phase) one)
        (first_least phase is since here.within arrives.place arrives.within ordered))
        (λ later. by_later moment _ since _ here.lies arrival _ _ phase.period there.lies later (first_by_next phase is since here.within))

    pub first_within : first_arrival phase moment ≤ℤ (moment +ℤ (pos (phase.period - (phase.count - 1) * phase.distance) -ℤ pos 1))
    first_within = near moment since _ _ (first_close phase is since here.within)
      where
        near : (moment : ℤ) (since ticks far : ℕ) → ticks < since + far → ((moment -ℤ pos since) +ℤ pos ticks) ≤ℤ (moment +ℤ (pos far -ℤ pos 1))
        near moment since ticks far h = omega (arith, ints, h)

    -- ---- the last arrival at or before it

    last_at : last_arrival phase moment ≡ (begin phase (turn_of moment) +ℤ pos (last_in_turn phase since))
    last_at = from_begin moment _ since _ here.lies

    pub last_arrives : IsArrivalOf phase (last_arrival phase moment)
    last_arrives = of_turn (turn_of moment) _ _ last_at (last_is phase is since here.within)

    pub last_before : last_arrival phase moment ≤ℤ moment
    last_before = not_after moment _ since _ here.lies (last_not_after phase is since here.within)

    pub last_after : (arrival : ℤ) → IsArrivalOf phase arrival → arrival ≤ℤ moment → arrival ≤ℤ last_arrival phase moment
    last_after arrival arrives before =
        let there = arrival_lies arrival arrives in
        in_order phase arrives.turn (turn_of moment) (arrives.place * phase.distance) since arrival moment there here before
        (λ one ordered. from_same moment _ since _ here.lies arrival _ _ there.lies (ap (begin phase) one)
        (last_greatest phase is since here.within arrives.place arrives.within ordered))
        (λ later. from_later moment _ since _ here.lies arrival _ _ phase.period there.lies later there.within)

    pub last_within : (moment -ℤ (pos (phase.period - (phase.count - 1) * phase.distance) -ℤ pos 1)) ≤ℤ last_arrival phase moment
    last_within = near moment since _ _ (last_close phase is since here.within)
      where
        near : (moment : ℤ) (since ticks far : ℕ) → since < ticks + far → (moment -ℤ (pos far -ℤ pos 1)) ≤ℤ ((moment -ℤ pos since) +ℤ pos ticks)
        near moment since ticks far h = omega (arith, ints, h)

  -- ---- after some periods all is the same again

  -- so many ticks of a period have passed at a moment in only one way
  lies_once : (turn other : ℤ) (since passed : ℕ) (moment : ℤ) → LiesIn phase turn since moment → LiesIn phase other passed moment → since ≡ passed
  lies_once turn other since passed moment here there = omega (arith, no_less turn other since passed moment here there, no_less other turn passed since moment there here)
    where
      reflexive : (a : ℤ) → a ≤ℤ a
      reflexive a = omega (arith, ints)

      past : (from to moment : ℤ) (period since passed : ℕ) → (from +ℤ pos period) ≤ℤ to → since < period
          → moment ≡ (from +ℤ pos since) → moment ≡ (to +ℤ pos passed) → ⊥
      past from to moment period since passed far within here there = omega (arith, ints, far, within, here, there)

      no_less : (turn other : ℤ) (since passed : ℕ) (moment : ℤ) → LiesIn phase turn since moment → LiesIn phase other passed moment → since ≤ passed
      no_less turn other since passed moment here there = in_order phase turn other since passed moment moment here there (reflexive moment)
          (λ one ordered. ordered)
          (λ later. absurd (past (begin phase turn) (begin phase other) moment phase.period since passed later here.within here.lies there.lies))

  module _ (turns : ℕ) (moment : ℤ) where
    lies_later : LiesIn phase (turn_of moment +ℤ pos turns) (since_turn phase moment) (moment +ℤ pos (turns * phase.period))
    lies_later = record {
      within = (lies_in moment).within;
      lies = moved (pos phase.offset) (turn_of moment *ℤ pos phase.period) ((turn_of moment +ℤ pos turns) *ℤ pos phase.period) moment
          (turns * phase.period) (since_turn phase moment) (turns_more (turn_of moment) (turn_of moment +ℤ pos turns) turns phase.period refl) (lies_in moment).lies;
    }
      where
        moved : (offset base other moment : ℤ) (ticks since : ℕ) → (base +ℤ pos ticks) ≡ other → moment ≡ ((offset +ℤ base) +ℤ pos since)
            → (moment +ℤ pos ticks) ≡ ((offset +ℤ other) +ℤ pos since)
        moved offset base other moment ticks since same is = omega (arith, ints, same, is)

    since_moved : since_turn phase (moment +ℤ pos (turns * phase.period)) ≡ since_turn phase moment
    since_moved = lies_once _ _ _ _ _ (lies_in (moment +ℤ pos (turns * phase.period))) lies_later

  moved_by : (in_turn : ℕ → ℕ) (moment : ℤ) (ticks since other : ℕ) → other ≡ since
      → (((moment +ℤ pos ticks) -ℤ pos other) +ℤ pos (in_turn other)) ≡ (((moment -ℤ pos since) +ℤ pos (in_turn since)) +ℤ pos ticks)
  moved_by in_turn moment ticks since other same =
      subst (λ n. (((moment +ℤ pos ticks) -ℤ pos n) +ℤ pos (in_turn n)) ≡ (((moment -ℤ pos since) +ℤ pos (in_turn since)) +ℤ pos ticks))
      (sym same) (commuted moment (pos ticks) (pos since) (pos (in_turn since)))
    where
      commuted : (a b c d : ℤ) → (((a +ℤ b) -ℤ c) +ℤ d) ≡ (((a -ℤ c) +ℤ d) +ℤ b)
      commuted a b c d = omega (arith, ints)

  module _ (ticks : ℕ) (divides : phase.period ∣ ticks) (moment : ℤ) where
    whole : ticks / phase.period * phase.period ≡ ticks
    whole = div-mul_cancel phase.period divides

    since_same : since_turn phase (moment +ℤ pos ticks) ≡ since_turn phase moment
    since_same = subst (λ n. since_turn phase (moment +ℤ pos n) ≡ since_turn phase moment) whole (since_moved (ticks / phase.period) moment)

    pub first_moved : first_arrival phase (moment +ℤ pos ticks) ≡ (first_arrival phase moment +ℤ pos ticks)
    first_moved = moved_by (first_in_turn phase) moment ticks _ _ since_same

    pub last_moved : last_arrival phase (moment +ℤ pos ticks) ≡ (last_arrival phase moment +ℤ pos ticks)
    last_moved = moved_by (last_in_turn phase) moment ticks _ _ since_same
