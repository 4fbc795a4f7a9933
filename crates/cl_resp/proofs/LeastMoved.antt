-- Whole cycles later all is the same: the arrivals, where windows may begin, and where they end.
use Rattle.std.proofs.Common.{◌≡◌, ℕ, zero, suc, ◌+◌, ◌-◌, ◌*◌, ◌/◌, ◌%◌, ◌<◌, ◌≤◌, ℤ, pos, negsuc, ◌+ℤ◌, ◌-ℤ◌, ◌≤ℤ◌, refl, sym, ap, ◌∙◌, subst, arith}
use Rattle.std.specs.Int.{◌∣◌}
use Rattle.std.proofs.Math.Nat.{dvd-mul_left_of_dvd, mul-le-mul_right}
use Rattle.std.proofs.lemmas.Int.{ints}
use Rattle.std.proofs.lemmas.Nat.{div-add-mod', mod_below}
use Rattle.cl_stim.specs.{declared.phase.Phase.Phase, Phase.{IsPhase, IsArrivalOf, last_arrival}}
use Rattle.cl_stim.proofs.PhaseSteps.{last_arrives, last_before, last_after, last_moved}
use Rattle.cl_resp.specs.Asked.{Asked, MayBegin, EndsBy, AnswersWithin, AskedComesRound}

-- from wherever the window of a job of this arrival may begin, one ends within the response
abbrev pub Answered : Asked → (response : ℕ) → (arrival : ℤ) → Type 0
Answered asked response arrival = (start : ℤ) → MayBegin asked arrival start → EndsBy asked start (arrival +ℤ pos response)

-- what is asked comes round after so many ticks
pub record ComesIn (asked : Asked) (ticks : ℕ) : Type 0 where
  pub divides : asked.arrivals.period ∣ ticks
  pub demand : (start : ℤ) (width : ℕ) → asked.demand (start +ℤ pos ticks) width ≡ asked.demand start width

-- ---- whole cycles

module _ (asked : Asked) (comes : AskedComesRound asked) where
  demand_round : (cycles : ℕ) (start later : ℤ) (width : ℕ) → later ≡ (start +ℤ pos (cycles * asked.cycle)) → asked.demand later width ≡ asked.demand start width
  demand_round zero start later width is =
      let same : later ≡ start = omega (arith, ints, is) in ap (λ z. asked.demand z width) same
  demand_round (suc cycles) start later width is =
      let before = later -ℤ pos asked.cycle in
      let after : later ≡ (before +ℤ pos asked.cycle) = omega (arith, ints) in
      let product : suc cycles * asked.cycle ≡ cycles * asked.cycle + asked.cycle = omega arith in
      let fewer : (later -ℤ pos asked.cycle) ≡ (start +ℤ pos (cycles * asked.cycle)) = omega (arith, ints, is, product) in
      ap (λ z. asked.demand z width) after ∙ comes.demand before width ∙ demand_round cycles start before width fewer

  pub whole_cycles : (cycles : ℕ) → ComesIn asked (cycles * asked.cycle)
  whole_cycles cycles = record {
    divides = dvd-mul_left_of_dvd asked.arrivals.period comes.arrivals cycles;
    demand = λ start width. demand_round cycles start (start +ℤ pos (cycles * asked.cycle)) width refl;
  }

-- ---- arrivals

itself : (a : ℤ) → a ≤ℤ a
itself a = omega (arith, ints)

both_ways : (a b : ℤ) → a ≤ℤ b → b ≤ℤ a → a ≡ b
both_ways a b less more = omega (arith, ints, less, more)

back : (last moment ticks : ℤ) → (last +ℤ ticks) ≡ (moment +ℤ ticks) → last ≡ moment
back last moment ticks same = omega (arith, ints, same)

module _ (phase : Phase) (is : IsPhase phase) where
  last_at : (arrival : ℤ) → IsArrivalOf phase arrival → last_arrival phase arrival ≡ arrival
  last_at arrival arrives = both_ways (last_arrival phase arrival) arrival (last_before phase is arrival) (last_after phase is arrival arrival arrives (itself arrival))

  module _ (ticks : ℕ) (divides : phase.period ∣ ticks) (moment later : ℤ) (at : later ≡ (moment +ℤ pos ticks)) where
    last_then : last_arrival phase later ≡ (last_arrival phase moment +ℤ pos ticks)
    last_then = ap (last_arrival phase) at ∙ last_moved phase is ticks divides moment

    pub arrives_later : IsArrivalOf phase moment → IsArrivalOf phase later
    arrives_later arrives =
        subst (IsArrivalOf phase) (last_then ∙ ap (λ z. z +ℤ pos ticks) (last_at moment arrives) ∙ sym at) (last_arrives phase is later)

    pub arrives_earlier : IsArrivalOf phase later → IsArrivalOf phase moment
    arrives_earlier arrives =
        subst (IsArrivalOf phase) (back (last_arrival phase moment) moment (pos ticks) (sym last_then ∙ last_at later arrives ∙ at)) (last_arrives phase is moment)

-- ---- where windows begin and end

module _ (asked : Asked) (phase : IsPhase asked.arrivals) (ticks : ℕ) (comes : ComesIn asked ticks) where
  module _ (start later latest then : ℤ) (at : later ≡ (start +ℤ pos ticks)) (until : then ≡ (latest +ℤ pos ticks)) where
    demand_then : (width : ℕ) → asked.demand later width ≡ asked.demand start width
    demand_then width = ap (λ z. asked.demand z width) at ∙ comes.demand start width

    pub ends_later : EndsBy asked start latest → EndsBy asked later then
    ends_later ends = record {
      width = ends.width;
      some = ends.some;
      by = omega (arith, ints, ends.by, at, until);
      enough = subst (λ n. n ≤ ends.width) (sym (demand_then ends.width)) ends.enough;
    }

    pub ends_earlier : EndsBy asked later then → EndsBy asked start latest
    ends_earlier ends = record {
      width = ends.width;
      some = ends.some;
      by = omega (arith, ints, ends.by, at, until);
      enough = subst (λ n. n ≤ ends.width) (demand_then ends.width) ends.enough;
    }

  module _ (arrival next : ℤ) (at : next ≡ (arrival +ℤ pos ticks)) where
    before_next : last_arrival asked.arrivals (next -ℤ pos 1) ≡ (last_arrival asked.arrivals (arrival -ℤ pos 1) +ℤ pos ticks)
    before_next =
        let moved : (next -ℤ pos 1) ≡ ((arrival -ℤ pos 1) +ℤ pos ticks) = omega (arith, ints, at) in
        last_then asked.arrivals phase ticks comes.divides (arrival -ℤ pos 1) (next -ℤ pos 1) moved

    module _ (start later : ℤ) (then : later ≡ (start +ℤ pos ticks)) where
      after_last : (last last' : ℤ) → last' ≡ (last +ℤ pos ticks) → (last' +ℤ pos 1) ≤ℤ later → (last +ℤ pos 1) ≤ℤ start
      after_last last last' same after = omega (arith, ints, same, after, then)

      after_next : (last last' : ℤ) → last' ≡ (last +ℤ pos ticks) → (last +ℤ pos 1) ≤ℤ start → (last' +ℤ pos 1) ≤ℤ later
      after_next last last' same after = omega (arith, ints, same, after, then)

      begins_earlier : MayBegin asked next later → MayBegin asked arrival start
      begins_earlier begins = record {
        after = after_last (last_arrival asked.arrivals (arrival -ℤ pos 1)) (last_arrival asked.arrivals (next -ℤ pos 1)) before_next begins.after;
        by = omega (arith, ints, begins.by, at, then);
      }

      begins_later : MayBegin asked arrival start → MayBegin asked next later
      begins_later begins = record {
        after = after_next (last_arrival asked.arrivals (arrival -ℤ pos 1)) (last_arrival asked.arrivals (next -ℤ pos 1)) before_next begins.after;
        by = omega (arith, ints, begins.by, at, then);
      }

    -- an arrival is answered where one so many ticks before is
    pub answered_later : (response : ℕ) → Answered asked response arrival → Answered asked response next
    answered_later response answered later begins =
        let start = later -ℤ pos ticks in
        let then : later ≡ ((later -ℤ pos ticks) +ℤ pos ticks) = omega (arith, ints) in
        ends_later start later (arrival +ℤ pos response) (next +ℤ pos response) then (omega (arith, ints, at))
        (answered start (begins_earlier start later then begins))

    -- and the converse
    pub answered_earlier : (response : ℕ) → Answered asked response next → Answered asked response arrival
    answered_earlier response answered start begins =
        let later = start +ℤ pos ticks in
        ends_earlier start later (arrival +ℤ pos response) (next +ℤ pos response) refl (omega (arith, ints, at))
        (answered later (begins_later start later refl begins))

-- ---- all arrivals

module _ (asked : Asked) (comes : AskedComesRound asked) (response : ℕ)
    (first : (moment : ℕ) → moment < asked.cycle → IsArrivalOf asked.arrivals (pos moment) → Answered asked response (pos moment)) where
  from_first : (moment : ℕ) → IsArrivalOf asked.arrivals (pos moment) → Answered asked response (pos moment)
  from_first moment arrives =
      let cycles = moment / asked.cycle in
      let within = moment % asked.cycle in
      let parts : moment / asked.cycle * asked.cycle + moment % asked.cycle ≡ moment = div-add-mod' moment asked.cycle in
      let at : pos moment ≡ (pos (moment % asked.cycle) +ℤ pos (moment / asked.cycle * asked.cycle)) = omega (arith, ints, parts) in
      let whole = whole_cycles asked comes cycles in
      answered_later asked comes.phase (cycles * asked.cycle) whole (pos within) (pos moment) at response
      (first within (mod_below moment asked.cycle comes.some)
      (arrives_earlier asked.arrivals comes.phase (cycles * asked.cycle) whole.divides (pos within) (pos moment) at arrives))

  -- where each arrival of the first cycle is answered, all are
  pub all_answered : AnswersWithin asked response
  all_answered (pos moment) start arrives begins = from_first moment arrives start begins
  all_answered (negsuc ago) start arrives begins =
      let ticks = suc ago * asked.cycle in
      let enough : suc ago ≤ suc ago * asked.cycle = omega (arith, mul-le-mul_right (suc ago) comes.some) in
      let at : pos (suc ago * asked.cycle - suc ago) ≡ (negsuc ago +ℤ pos (suc ago * asked.cycle)) = omega (arith, ints, enough) in
      let whole = whole_cycles asked comes (suc ago) in
      let moment = ticks - suc ago in
      answered_earlier asked comes.phase ticks whole (negsuc ago) (pos moment) at response
      (from_first moment (arrives_later asked.arrivals comes.phase ticks whole.divides (negsuc ago) (pos moment) at arrives)) start begins
