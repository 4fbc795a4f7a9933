-- Walks go at least as far as the jobs of a chain: onward from a job's arrival they come to no earlier an arrival than
-- that of the job that takes what it writes, and back to no later a one than that of the job that just misses it.
use Rattle.std.proofs.Common.{◌≡◌, ℕ, ℤ, pos, zero, suc, ◌+◌, ◌-◌, ◌<◌, ◌≤◌, inl, inr, List, length, sym, ap, subst, arith}
use Rattle.std.specs.Prelude.{◌+ℤ◌, ◌-ℤ◌, ◌≤ℤ◌, ◌⊎◌}
use Rattle.std.proofs.lemmas.Bool.{cases_lt}
use Rattle.std.proofs.lemmas.Int.{ints}
use Rattle.cl_stim.specs.declared.phase.Phase.{Phase}
use Rattle.cl_phase.specs.{declared.{pace.Pace.{Pace, TheVariants.{Kept, Free}}, stop.Stop.Stop}, Pace.{last_by, previous, AreNeighbours}, Walks.{pace_at, lag_at, onward, back, last_place, arrival_at_last, arrival_at_first}, TightBounds.{length_from, reduced_from}}
use Rattle.cl_phase.proofs.Stepped.{IsStepped}

-- a place whose group keeps its phase
abbrev pub KeepsPhase : List Stop → (place : ℕ) → Type 0
KeepsPhase stops place = (phase : Phase) × (pace_at stops place ≡ Kept phase)

-- a place whose group doesn't
abbrev pub IsFreeAt : List Stop → (place : ℕ) → Type 0
IsFreeAt stops place = (greatest : ℕ) × (pace_at stops place ≡ Free greatest)

-- two jobs of each group of a chain, one after the other, so that each before arrives less than the lag after the
-- later one of the group before it
pub record AreLinkedJobs (stops : List Stop) (before after : ℕ → ℤ) : Type 0 where
  pub neighbours : (place : ℕ) → place < length stops → AreNeighbours (pace_at stops place) (before place) (after place)
  pub linked : (place : ℕ) → suc place < length stops → (before (suc place) +ℤ pos 1) ≤ℤ (after place +ℤ lag_at stops place)

-- a kept arrival's previous one is the job's before it
kept_previous : (pace : Pace) (phase : Phase) (before after : ℤ) → pace ≡ Kept phase → AreNeighbours pace before after → before ≤ℤ previous pace after
unfolding last_by
kept_previous (Kept other) phase before after is near = omega (arith, ints, near.1)
kept_previous (Free greatest) phase before after is near = cc

module _ (stops : List Stop) (stepped : (place : ℕ) → place < length stops → IsStepped (pace_at stops place))
    (before after : ℕ → ℤ) (jobs : AreLinkedJobs stops before after) where
  -- the job before the next one arrives before the moment from which the walk steps
  before_step : (place hops : ℕ) → place + suc hops < length stops → after (place + hops) ≤ℤ onward stops place (after place) hops
      → (before (place + suc hops) +ℤ pos 1) ≤ℤ (onward stops place (after place) hops +ℤ lag_at stops (place + hops))
  before_step place hops h come =
      let next : place + suc hops ≡ suc (place + hops) = omega arith in
      omega (arith, ints, ap before next, jobs.linked (place + hops) (omega (arith, h)), come)

  -- onward
  pub comes_by : (place hops : ℕ) → place + hops < length stops → after (place + hops) ≤ℤ onward stops place (after place) hops
  unfolding onward
  comes_by place zero h =
      let here : place + 0 ≡ place = omega arith in
      omega (arith, ints, ap after here)
  comes_by place (suc hops) h = (stepped (place + suc hops) h).after_by (before (place + suc hops)) (after (place + suc hops))
      (onward stops place (after place) hops +ℤ lag_at stops (place + hops)) (jobs.neighbours (place + suc hops) h)
      (before_step place hops h (comes_by place hops (omega (arith, h))))

  -- to the job before the one that the walk comes to
  pub comes_after : (place hops : ℕ) → place + suc hops < length stops
      → before (place + suc hops) ≤ℤ previous (pace_at stops (place + suc hops)) (onward stops place (after place) (suc hops))
  unfolding onward
  comes_after place hops h = (stepped (place + suc hops) h).before_by (before (place + suc hops)) (after (place + suc hops))
      (onward stops place (after place) hops +ℤ lag_at stops (place + hops)) (jobs.neighbours (place + suc hops) h)
      (before_step place hops h (comes_by place hops (omega (arith, h))))

  -- back
  before_earlier : (place hops : ℕ) → place < length stops → hops < place
      → back stops place (previous (pace_at stops place) (after place)) hops ≤ℤ before (place - hops)
      → ((back stops place (previous (pace_at stops place) (after place)) hops -ℤ lag_at stops (place - suc hops)) +ℤ pos 1)
      ≤ℤ after (place - suc hops)
  before_earlier place hops h few come =
      let next : suc (place - suc hops) ≡ place - hops = omega (arith, few) in
      omega (arith, ints, ap before next, jobs.linked (place - suc hops) (omega (arith, h, few)), come)

  pub leaves_from : (place hops : ℕ) → place < length stops → hops ≤ place
      → back stops place (previous (pace_at stops place) (after place)) hops ≤ℤ before (place - hops)
  unfolding back
  leaves_from place zero h few =
      let here : place - 0 ≡ place = omega arith in
      omega (arith, ints, ap before here, (stepped place h).not_before_previous (before place) (after place) (jobs.neighbours place h))
  leaves_from place (suc hops) h few =
      let there : place - suc hops < length stops = omega (arith, h) in
      (stepped (place - suc hops) there).before_from (before (place - suc hops)) (after (place - suc hops))
      (back stops place (previous (pace_at stops place) (after place)) hops -ℤ lag_at stops (place - suc hops))
      (jobs.neighbours (place - suc hops) there)
      (before_earlier place hops h (omega (arith, few)) (leaves_from place hops h (omega (arith, few))))

  module _ (place : ℕ) (is : place < length stops) where
    -- the last group's later job arrives at or before the walk's end
    pub last_by_walk : after (last_place stops) ≤ℤ arrival_at_last stops place (after place)
    last_by_walk =
        let there : place + (last_place stops - place) ≡ last_place stops = omega (arith, is) in
        omega (arith, ints, ap after there, comes_by place (last_place stops - place) (omega (arith, is)))

    -- the first group's earlier job at or after the walk's end back
    pub first_from_walk : arrival_at_first stops place (after place) ≤ℤ before 0
    first_from_walk =
        let there : place - place ≡ 0 = omega arith in
        omega (arith, ints, ap before there, leaves_from place place is (omega arith))

    -- and where the walk has a hop, or its group keeps its phase, the last group's earlier job at or before the arrival
    -- before the walk's end
    last_of_hop : place < last_place stops
        → before (last_place stops) ≤ℤ previous (pace_at stops (last_place stops)) (arrival_at_last stops place (after place))
    last_of_hop hop =
        let hops : last_place stops - place ≡ suc (last_place stops - suc place) = omega (arith, hop) in
        let there : place + suc (last_place stops - suc place) ≡ last_place stops = omega (arith, hop) in
        subst (λ n. before (last_place stops) ≤ℤ previous (pace_at stops (last_place stops)) (onward stops place (after place) n)) (sym hops)
        (subst (λ n. before n ≤ℤ previous (pace_at stops n) (onward stops place (after place) (suc (last_place stops - suc place)))) there
        (comes_after place (last_place stops - suc place) (omega (arith, hop, is))))

    last_of_none : place ≡ last_place stops → KeepsPhase stops place
        → before (last_place stops) ≤ℤ previous (pace_at stops (last_place stops)) (arrival_at_last stops place (after place))
    unfolding onward
    last_of_none same kept =
        let none : last_place stops - place ≡ 0 = omega (arith, same) in
        subst (λ n. before (last_place stops) ≤ℤ previous (pace_at stops (last_place stops)) (onward stops place (after place) n)) (sym none)
        (subst (λ n. before n ≤ℤ previous (pace_at stops n) (after place)) same
        (kept_previous (pace_at stops place) kept.0 (before place) (after place) kept.1 (jobs.neighbours place is)))

    -- the walks last at least as long as the jobs, from the first group's earlier one to the last group's later one
    pub length_covers : (span : ℤ) → ((after (last_place stops) -ℤ before 0) +ℤ span) ≤ℤ length_from stops span place (after place)
    length_covers span = omega (arith, ints, last_by_walk, first_from_walk)

    -- or to its earlier one
    reduced_where : (span : ℤ) → before (last_place stops) ≤ℤ previous (pace_at stops (last_place stops)) (arrival_at_last stops place (after place))
        → ((before (last_place stops) -ℤ before 0) +ℤ span) ≤ℤ reduced_from stops span place (after place)
    reduced_where span last = omega (arith, ints, last, first_from_walk)

    -- a lone group's earlier jobs are one
    reduced_alone : (span : ℤ) → place ≡ last_place stops → place ≡ 0
        → ((before (last_place stops) -ℤ before 0) +ℤ span) ≤ℤ reduced_from stops span place (after place)
    unfolding onward back
    reduced_alone span last first =
        let only : last_place stops ≡ 0 = omega (arith, last, first) in
        let none : last_place stops - place ≡ 0 = omega (arith, last) in
        subst (λ n. ((before (last_place stops) -ℤ before 0) +ℤ span)
        ≤ℤ ((previous (pace_at stops (last_place stops)) (onward stops place (after place) n) -ℤ arrival_at_first stops place (after place)) +ℤ span)) (sym none)
        (subst (λ n. ((before (last_place stops) -ℤ before 0) +ℤ span)
        ≤ℤ ((previous (pace_at stops n) (after place) -ℤ arrival_at_first stops place (after place)) +ℤ span)) last
        (subst (λ n. ((before (last_place stops) -ℤ before 0) +ℤ span)
        ≤ℤ ((previous (pace_at stops place) (after place) -ℤ back stops place (previous (pace_at stops place) (after place)) n) +ℤ span)) (sym first)
        (omega (arith, ints, ap before only))))

    pub reduced_covers : (span : ℤ) → (KeepsPhase stops place) ⊎ (place ≡ 0)
        → ((before (last_place stops) -ℤ before 0) +ℤ span) ≤ℤ reduced_from stops span place (after place)
    reduced_covers span start = elim (cases_lt place (last_place stops)) [
      | inl hop ↦ reduced_where span (last_of_hop hop)
      | inr past ↦
          let same : place ≡ last_place stops = omega (arith, past, is) in
          elim start [
            | inl kept ↦ reduced_where span (last_of_none same kept)
            | inr first ↦ reduced_alone span same first
          ]
    ]
