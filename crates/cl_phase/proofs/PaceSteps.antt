-- The steps of every pace are what walks need of them.
use Rattle.std.proofs.Common.{◌≡◌, ℕ, ℤ, pos, ◌+ℤ◌, ◌-ℤ◌, ◌≤ℤ◌, ◌<ℤ◌, refl, sym, subst, arith}
use Rattle.std.proofs.lemmas.Int.{ints, by_lt_z}
use Rattle.cl_stim.specs.{declared.phase.Phase.Phase, Phase.{IsPhase, IsArrivalOf, first_arrival, last_arrival}}
use Rattle.cl_stim.proofs.PhaseSteps.{first_arrives, first_after, first_before, first_within, first_moved, last_arrives, last_before, last_after, last_within, last_moved}
use Rattle.cl_phase.specs.{declared.pace.Pace.{Pace, TheVariants.{Kept, Free}}, Pace.{IsPace, first_from, last_by}}
use Rattle.cl_phase.proofs.Stepped.{IsStepped}

through : (a b c : ℤ) → a ≤ℤ b → b ≤ℤ c → a ≤ℤ c
through a b c h k = omega (arith, ints, h, k)

through_below : (a b c : ℤ) → a ≤ℤ b → (b +ℤ pos 1) ≤ℤ c → a ≤ℤ (c -ℤ pos 1)
through_below a b c h k = omega (arith, ints, h, k)

through_above : (a b c : ℤ) → (a +ℤ pos 1) ≤ℤ b → b ≤ℤ c → a ≤ℤ (c -ℤ pos 1)
through_above a b c h k = omega (arith, ints, h, k)

itself : (a b : ℤ) → a ≡ b → b ≤ℤ a
itself a b h = omega (arith, ints, h)

-- ---- where a phase is kept

module _ (phase : Phase) (is : IsPhase phase) where
  onward_back : (from to : ℤ) → first_arrival phase from ≤ℤ to → from ≤ℤ last_arrival phase to
  onward_back from to h = through from (first_arrival phase from) (last_arrival phase to) (first_after phase is from)
      (last_after phase is to (first_arrival phase from) (first_arrives phase is from) h)

  back_onward : (from to : ℤ) → from ≤ℤ last_arrival phase to → first_arrival phase from ≤ℤ to
  back_onward from to h = through (first_arrival phase from) (last_arrival phase to) to
      (first_before phase is from (last_arrival phase to) (last_arrives phase is to) h) (last_before phase is to)

  module _ (before after : ℤ) (arrives : IsArrivalOf phase after) (last : before ≡ last_arrival phase (after -ℤ pos 1)) (moment : ℤ) where
    -- an arrival before a neighbour's is no later than its predecessor's
    no_between : (arrival : ℤ) → IsArrivalOf phase arrival → (arrival +ℤ pos 1) ≤ℤ after → arrival ≤ℤ before
    no_between arrival is_arrival less = through arrival (last_arrival phase (after -ℤ pos 1)) before
        (last_after phase is (after -ℤ pos 1) arrival is_arrival (through_below arrival arrival after (itself arrival arrival refl) less)) (itself before _ last)

    after_by : (before +ℤ pos 1) ≤ℤ moment → after ≤ℤ first_arrival phase moment
    after_by later = by_lt_z (first_arrival phase moment) after
        (λ less. absurd (apart before moment (first_arrival phase moment) later (first_after phase is moment)
        (no_between (first_arrival phase moment) (first_arrives phase is moment) (next _ _ less))))
        (λ no. no)
      where
        apart : (a b c : ℤ) → (a +ℤ pos 1) ≤ℤ b → b ≤ℤ c → c ≤ℤ a → ⊥
        apart a b c h k l = omega (arith, ints, h, k, l)

        next : (a b : ℤ) → a <ℤ b → (a +ℤ pos 1) ≤ℤ b
        next a b h = omega (arith, ints, h)

    before_from : (moment +ℤ pos 1) ≤ℤ after → last_arrival phase moment ≤ℤ before
    before_from earlier = no_between (last_arrival phase moment) (last_arrives phase is moment)
        (through (last_arrival phase moment +ℤ pos 1) (moment +ℤ pos 1) after (more _ _ (last_before phase is moment)) earlier)
      where
        more : (a b : ℤ) → a ≤ℤ b → (a +ℤ pos 1) ≤ℤ (b +ℤ pos 1)
        more a b h = omega (arith, ints, h)

    before_by : (before +ℤ pos 1) ≤ℤ moment → before ≤ℤ last_arrival phase (first_arrival phase moment -ℤ pos 1)
    before_by later = last_after phase is (first_arrival phase moment -ℤ pos 1) before
        (subst (IsArrivalOf phase) (sym last) (last_arrives phase is (after -ℤ pos 1)))
        (through_above before moment (first_arrival phase moment) later (first_after phase is moment))

  kept_steps : IsStepped (Kept phase)
  unfolding first_from last_by
  kept_steps = record {
    onward_back = onward_back;
    back_onward = back_onward;
    first_near = first_within phase is;
    last_near = last_within phase is;
    first_moves = first_moved phase is;
    last_moves = last_moved phase is;
    not_before_previous = λ before after neighbours. itself before _ neighbours.1;
    after_by = λ before after moment neighbours. after_by before after neighbours.0 neighbours.1 moment;
    before_from = λ before after moment neighbours. before_from before after neighbours.0 neighbours.1 moment;
    before_by = λ before after moment neighbours. before_by before after neighbours.0 neighbours.1 moment;
  }

-- ---- where none is

-- steps of a shift
module _ (far : ℤ) where
  shift_back : (from to : ℤ) → (from +ℤ far) ≤ℤ to → from ≤ℤ (to -ℤ far)
  shift_back from to h = omega (arith, ints, h)

  back_shift : (from to : ℤ) → from ≤ℤ (to -ℤ far) → (from +ℤ far) ≤ℤ to
  back_shift from to h = omega (arith, ints, h)

  shift_moves : (moment ticks : ℤ) → ((moment +ℤ ticks) +ℤ far) ≡ ((moment +ℤ far) +ℤ ticks)
  shift_moves moment ticks = omega (arith, ints)

  back_moves : (moment ticks : ℤ) → ((moment +ℤ ticks) -ℤ far) ≡ ((moment -ℤ far) +ℤ ticks)
  back_moves moment ticks = omega (arith, ints)

module _ (step : ℤ) (before after : ℤ) (near : after ≤ℤ (before +ℤ step)) where
  shift_previous : ((after -ℤ pos 1) -ℤ (step -ℤ pos 1)) ≤ℤ before
  shift_previous = omega (arith, ints, near)

  shift_after : (moment : ℤ) → (before +ℤ pos 1) ≤ℤ moment → after ≤ℤ (moment +ℤ (step -ℤ pos 1))
  shift_after moment h = omega (arith, ints, near, h)

  shift_before : (moment : ℤ) → (moment +ℤ pos 1) ≤ℤ after → (moment -ℤ (step -ℤ pos 1)) ≤ℤ before
  shift_before moment h = omega (arith, ints, near, h)

  shift_by : (moment : ℤ) → (before +ℤ pos 1) ≤ℤ moment → before ≤ℤ (((moment +ℤ (step -ℤ pos 1)) -ℤ pos 1) -ℤ (step -ℤ pos 1))
  shift_by moment h = omega (arith, ints, h)

free_steps : (greatest : ℕ) → IsStepped (Free greatest)
unfolding first_from last_by
free_steps greatest = record {
  onward_back = shift_back (pos greatest -ℤ pos 1);
  back_onward = back_shift (pos greatest -ℤ pos 1);
  first_near = λ moment. itself _ _ refl;
  last_near = λ moment. itself _ _ refl;
  first_moves = λ ticks round moment. shift_moves (pos greatest -ℤ pos 1) moment (pos ticks);
  last_moves = λ ticks round moment. back_moves (pos greatest -ℤ pos 1) moment (pos ticks);
  not_before_previous = shift_previous (pos greatest);
  after_by = λ before after moment near. shift_after (pos greatest) before after near moment;
  before_from = λ before after moment near. shift_before (pos greatest) before after near moment;
  before_by = λ before after moment near. shift_by (pos greatest) before after near moment;
}

-- every pace steps as walks need it
pub paces_step : (pace : Pace) → IsPace pace → IsStepped pace
paces_step (Kept phase) is = kept_steps phase is
paces_step (Free greatest) is = free_steps greatest
