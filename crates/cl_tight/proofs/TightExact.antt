-- Where exact lengths exist the bounds by walks are them: each walk of timed periodic groups lasts as long as one that
-- starts late, which is an ideal chain.
use Rattle.std.proofs.Common.{◌≡◌, ℕ, suc, ◌+◌, ◌-◌, ◌*◌, ◌/◌, ◌<◌, ◌≤◌, List, length, refl, sym, ap, subst, ◌∙◌, arith, inl, inr}
use Rattle.std.specs.Prelude.{ℤ, pos, negsuc, ◌+ℤ◌, ◌*ℤ◌, ◌≤ℤ◌}
use Rattle.std.specs.Int.{◌∣◌}
use Rattle.std.proofs.Math.Nat.{div-mul_cancel, dvd-mul_left, mul-le-mul_left, mul-le-mul_right}
use Rattle.std.proofs.lemmas.Bool.{cases_lt}
use Rattle.std.proofs.lemmas.Int.{ints}
use Rattle.std.proofs.lemmas.Nat.Gcd.{dvd_trans}
use Rattle.cl_model.specs.{declared.group.Group.Group, Groups.{group_at, no_group}}
use Rattle.cl_model.proofs.Greatest.{greatest_least}
use Rattle.cl_runs.specs.{TaskTiming.{System, timing_at}, Chains.{last_group, first_job}}
use Rattle.cl_hop.specs.Bounds.{Lengths}
use Rattle.cl_exact.specs.{declared.witness.Witness.Witness, Hyperperiod.period_of, ExactLengths.{second_arrival, HaveAllBegun, IsSteadyForward, chain_of, IsExact, Witnesses, AreExactLengths}, SteadyJobs.all_begun, Ties.AreTied}
use Rattle.cl_phase.specs.{declared.stop.Stop.Stop, Pace.{previous, PaceComesRound}, Walks.{pace_at, onward, last_place, arrival_at_last}, TightBounds.{length_from, reduced_from, bounds_from}}
use Rattle.cl_phase.proofs.{Stepped.IsStepped, WalksMove.{length_moves, reduced_moves}, EachPhase.{AreOverAll, each_phase}}
use Rattle.cl_tight.specs.ExactBounds.{AreLengthsOf}
use Rattle.cl_tight.proofs.{IdealSteps.{offset_of, read_in, ReadsAt, next_read, job_arrives, turn_is, last_is_read}, IdealWalks.{AreIdealStops, reads_at, walk_is_chain}, IdealChains.has_chain}

-- a number of ticks that all periods of the groups divide
pub record AreTurns (system : System) (groups : List Group) (ticks : ℕ) : Type 0 where
  pub some : 1 ≤ ticks
  pub whole : (place : ℕ) → place < length groups → period_of system (group_at groups place) ∣ ticks

-- after so many times these ticks an arrival is the read of a late job
record ReadsLate (system : System) (group : Group) (ticks least : ℕ) (arrival : ℤ) : Type 0 where
  job : ℕ
  times : ℕ
  late : least ≤ job
  moved : pos (read_in system group job) ≡ (arrival +ℤ pos (times * ticks))

module _ (system : System) (group : Group) (ticks turns : ℕ) (some : 1 ≤ turns) (whole : turns * period_of system group ≡ ticks) (least : ℕ) where
  late_turn : (arrival turn : ℤ) → arrival ≡ (pos (offset_of system group) +ℤ (turn *ℤ pos (period_of system group)))
      → ReadsLate system group ticks least arrival
  late_turn arrival (pos turn) is =
      let more : 1 * least ≤ turns * least = mul-le-mul_right least some in
      let far = ap (λ n. least * n) whole in
      record {
        job = turn + least * turns;
        times = least;
        late = omega (arith, more);
        moved = omega (arith, ints, is, far);
      }
  late_turn arrival (negsuc turn) is =
      let times : ℕ = least + suc turn in
      let more : 1 * times ≤ turns * times = mul-le-mul_right times some in
      let job : ℕ = times * turns - suc turn in
      let sum : job + suc turn ≡ times * turns = omega (arith, more) in
      let far = ap (λ n. times * n) whole in
      let wide = ap (λ n. n * period_of system group) sum in
      record {
        job = job;
        times = times;
        late = omega (arith, more);
        moved = omega (arith, ints, is, far, wide);
      }

module _ (system : System) (groups : List Group) (stops : List Stop) (stepped : (place : ℕ) → place < length stops → IsStepped (pace_at stops place))
    (are : AreIdealStops system groups stops) (ticks : ℕ) (turns : AreTurns system groups ticks) (span : ℤ) (write : ℕ) where
  abbrev group : ℕ → Group
  group place = group_at groups place

  positive : (place : ℕ) → place < length groups → 1 ≤ period_of system (group place)
  positive place within = let is = are.periodic place within in omega (arith, is.some_deadline, is.soon)

  some_turns : (place : ℕ) → place < length groups → 1 ≤ ticks / period_of system (group place)
  some_turns place within = elim (cases_lt 0 (ticks / period_of system (group place))) [
    | inl up ↦ up
    | inr none ↦
        let here : ticks / period_of system (group place) ≡ 0 = omega (arith, none) in
        let whole = div-mul_cancel (period_of system (group place)) (turns.whole place within) in
        absurd (omega (arith, whole, ap (λ n. n * period_of system (group place)) here, turns.some))
  ]

  late : (place : ℕ) → place < length groups → (least : ℕ) (arrival : ℤ) → ReadsAt system (group place) arrival
      → ReadsLate system (group place) ticks least arrival
  late place within least arrival arrives =
      late_turn system (group place) ticks (ticks / period_of system (group place)) (some_turns place within)
      (div-mul_cancel (period_of system (group place)) (turns.whole place within)) least arrival arrives.turn (turn_is system (group place) arrival arrives)

  round : (times place : ℕ) → place < length stops → PaceComesRound (times * ticks) (pace_at stops place)
  round times place within =
      let there : place < length groups = omega (arith, within, are.as_many) in
      subst (PaceComesRound (times * ticks)) (sym (are.paces place there))
      (dvd_trans (period_of system (group place)) (turns.whole place there) (dvd-mul_left ticks times))

  -- walks from a late read last as long
  same_length : (place : ℕ) → place < length stops → (least : ℕ) (arrival : ℤ) → (late : ReadsLate system (group place) ticks least arrival)
      → length_from stops span place (pos (read_in system (group place) late.job)) ≡ length_from stops span place arrival
  same_length place within least arrival late =
      length_moves stops stepped (late.times * ticks) (round late.times) place within span _ arrival late.moved

  same_reduced : (place : ℕ) → place < length stops → (least : ℕ) (arrival : ℤ) → (late : ReadsLate system (group place) ticks least arrival)
      → reduced_from stops span place (pos (read_in system (group place) late.job)) ≡ reduced_from stops span place arrival
  same_reduced place within least arrival late =
      reduced_moves stops stepped (late.times * ticks) (round late.times) place within span _ arrival late.moved

  -- ---- the reaction

  begun : (job : ℕ) → all_begun system groups ≤ job → HaveAllBegun system groups (read_in system (group 0) job)
  begun job late place d within =
      let more : job * 1 ≤ job * period_of system (group 0) = mul-le-mul_left job (positive 0 are.some) in
      omega (arith, late, more, greatest_least (second_arrival system) groups place d within)

  module _ (whole : span ≡ pos (timing_at system (last_group groups).task).deadline) (over : AreOverAll stops span write 0 (ReadsAt system (group 0)))
      (witness : Witness) (exact : IsExact (IsSteadyForward system groups) first_job witness) where
    at_least : witness.length ≤ (bounds_from stops span write 0).reaction
    at_least =
        let is = exact.longest.is_chain.is_chain in
        let value = walk_is_chain system groups stops are (chain_of witness) is span whole in
        let above = over.lengths.above (pos (read_in system (group 0) (first_job (chain_of witness)))) (job_arrives system (group 0) (first_job (chain_of witness))) in
        omega (arith, ints, exact.length, value, above)

    late_within : (job : ℕ) → all_begun system groups ≤ job
        → length_from stops span 0 (pos (read_in system (group 0) job)) ≤ℤ pos witness.length
    late_within job after =
        let all = begun job after in
        let has = has_chain system groups are.some are.periodic job (λ place within. all place no_group within) in
        let value = walk_is_chain system groups stops are has.chain has.is_chain span whole in
        let steady : IsSteadyForward system groups has.chain = record {
          is_chain = has.is_chain;
          read = read_in system (group 0) (first_job has.chain);
          reads = reads_at system (group 0) (are.periodic 0 are.some) (first_job has.chain);
          steady = subst (λ first. HaveAllBegun system groups (read_in system (group 0) first)) (sym has.starts) all;
        } in
        let longest = exact.longest.longest has.chain steady in
        let there = ap (λ first. length_from stops span 0 (pos (read_in system (group 0) first))) has.starts in
        omega (arith, ints, exact.length, value, longest, there)

    at_most : (bounds_from stops span write 0).reaction ≤ witness.length
    at_most = elim (cases_lt 0 (bounds_from stops span write 0).reaction) [
      | inl some ↦
          let has = over.lengths.attained some in
          let later = late 0 are.some (all_begun system groups) has.arrival has.arrives in
          omega (arith, ints, has.is, same_length 0 over.within (all_begun system groups) has.arrival later, late_within later.job later.late)
      | inr none ↦ omega (arith, none)
    ]

    pub reaction_is_exact : (bounds_from stops span write 0).reaction ≡ witness.length
    reaction_is_exact = omega (arith, at_least, at_most)

  -- ---- the reduced age

  abbrev last : ℕ
  last = length groups - 1

  last_in : last < length groups
  last_in = omega (arith, are.some)

  -- from the last group walks end where they start
  ends_here : (arrival : ℤ) → arrival_at_last stops last arrival ≡ arrival
  unfolding onward
  ends_here arrival =
      let none : length stops - 1 - (length groups - 1) ≡ 0 = omega (arith, are.as_many) in
      ap (onward stops (length groups - 1) arrival) none

  -- so without the job before, they last a period less
  shorter_late : (job : ℕ) → 1 ≤ job
      → (reduced_from stops span last (pos (read_in system (group last) job)) +ℤ pos (period_of system (group last)))
      ≡ length_from stops span last (pos (read_in system (group last) job))
  shorter_late job some =
      let arrival : ℤ = pos (read_in system (group last) job) in
      let place : last_place stops ≡ last = omega (arith, are.as_many) in
      let before = ap (λ n. previous (pace_at stops n) arrival) place
      ∙ last_is_read system (group last) (pace_at stops last) (are.leads last last_in) job some (positive last last_in) in
      let ends = ap (previous (pace_at stops (last_place stops))) (ends_here arrival) in
      omega (arith, ints, ends_here arrival, ends, before, next_read system (group last) job some)

  shorter : (arrival : ℤ) → ReadsAt system (group last) arrival
      → (reduced_from stops span last arrival +ℤ pos (period_of system (group last))) ≡ length_from stops span last arrival
  shorter arrival arrives =
      let later = late last last_in 1 arrival arrives in
      let within : last < length stops = omega (arith, last_in, are.as_many) in
      omega (arith, ints, same_length last within 1 arrival later, same_reduced last within 1 arrival later, shorter_late later.job later.late)

  -- and so is the reduced age, where the reaction isn't below the period
  module _ (over : AreOverAll stops span write last (ReadsAt system (group last)))
      (far : period_of system (group last) ≤ (bounds_from stops span write last).reaction) where
    reduced_at_least : (bounds_from stops span write last).reaction ≤ (bounds_from stops span write last).reduced + period_of system (group last)
    reduced_at_least =
        let has = over.lengths.attained (omega (arith, far, positive last last_in)) in
        omega (arith, ints, has.is, shorter has.arrival has.arrives, over.reduced.above has.arrival has.arrives)

    reduced_at_most : (bounds_from stops span write last).reduced + period_of system (group last) ≤ (bounds_from stops span write last).reaction
    reduced_at_most = elim (cases_lt 0 (bounds_from stops span write last).reduced) [
      | inl some ↦
          let has = over.reduced.attained some in
          omega (arith, ints, has.is, shorter has.arrival has.arrives, over.lengths.above has.arrival has.arrives)
      | inr none ↦ omega (arith, none, far)
    ]

    pub reduced_is_shorter : (bounds_from stops span write last).reduced + period_of system (group last) ≡ (bounds_from stops span write last).reaction
    reduced_is_shorter = omega (arith, reduced_at_least, reduced_at_most)

bounds_age : (stops : List Stop) (span : ℤ) (write place : ℕ) → (bounds_from stops span write place).age ≡ (bounds_from stops span write place).reaction
unfolding bounds_from
bounds_age stops span write place = refl

-- bounds by walks from any group whose arrivals are fixed
module _ (system : System) (groups : List Group) (stops : List Stop) (stepped : (place : ℕ) → place < length stops → IsStepped (pace_at stops place))
    (are : AreIdealStops system groups stops) (ticks : ℕ) (turns : AreTurns system groups ticks) (span : ℤ) (write : ℕ)
    (whole : span ≡ pos (timing_at system (last_group groups).task).deadline)
    (over : (place : ℕ) → place < length groups → AreOverAll stops span write place (ReadsAt system (group_at groups place)))
    (exact : Witnesses) (are_exact : AreExactLengths system groups exact) (tied : AreTied system groups exact) where
  at_first : (place : ℕ) → place < length groups → bounds_from stops span write place ≡ bounds_from stops span write 0
  at_first place within = each_phase stops stepped span write place 0 (ReadsAt system (group_at groups place)) (ReadsAt system (group_at groups 0))
      (over place within) (over 0 are.some)

  lengths_at_first : AreLengthsOf (bounds_from stops span write 0) exact
  lengths_at_first =
      let reaction = reaction_is_exact system groups stops stepped are ticks turns span write whole (over 0 are.some) exact.reaction are_exact.reaction in
      let last_in : length groups - 1 < length groups = omega (arith, are.some) in
      let same = at_first (length groups - 1) last_in in
      let last_reaction = ap (λ (bounds : Lengths). bounds.reaction) same in
      let last_reduced = ap (λ (bounds : Lengths). bounds.reduced) same in
      let shorter = reduced_is_shorter system groups stops stepped are ticks turns span write (over (length groups - 1) last_in)
      (omega (arith, last_reaction, reaction, tied.shorter, tied.equal)) in
      record {
        reaction = reaction;
        age = omega (arith, bounds_age stops span write 0, reaction, tied.equal);
        reduced = omega (arith, shorter, last_reaction, last_reduced, reaction, tied.shorter, tied.equal);
      }

  pub lengths_are_exact : (place : ℕ) → place < length groups → AreLengthsOf (bounds_from stops span write place) exact
  lengths_are_exact place within = subst (λ bounds. AreLengthsOf bounds exact) (sym (at_first place within)) lengths_at_first
