-- Where the beginnings of an arrival lie, as 64 signed bits hold them.
use Rattle.std.proofs.Common.{◌≡◌, ℕ, ◌<◌, ◌≤◌, true, ℤ, pos, ◌+ℤ◌, ◌-ℤ◌, ◌≤ℤ◌, ◌<ℤ◌, [], ap, ◌∙◌, arith, to_z, of_z, w64}
use Rattle.std.specs.Prelude.{Option, Some, None, unwrap_or, MatchOption, unsigned_abs}
use Rattle.std.specs.Int.{int_max}
use Rattle.std.specs.Int.Signed.{lt_z}
use Rattle.std.proofs.lemmas.Int.{ints, clamps}
use Rattle.cl_model.specs.declared.limits.TheConstants.{MOST_TICKS}
use Rattle.cl_stim.specs.Phase.{last_arrival}
use Rattle.cl_resp.specs.{declared.phased.PhasedQuestion.PhasedQuestion, Asked.MayBegin, Inner.{Phased.{asked_of, IsPhasedInRange}, Releases.IsLastReleaseBefore}}

-- a number, as it is held
abbrev pub held : ℤ → ℤ
held z = to_z w64 (of_z w64 z)

-- one that lies near a moment of a cycle is held
pub near_held : (moment z : ℤ) (cycle : ℕ) → z ≤ℤ moment → (moment -ℤ pos MOST_TICKS) ≤ℤ z → pos 0 ≤ℤ moment → moment <ℤ pos cycle
    → cycle ≤ 10000000000000000 → z ≡ held z
near_held moment z cycle before near after within short = omega (arith, ints, before, near, after, within, short)

-- how far a moment is after another
abbrev pub way_down : (from to : ℤ) → ℕ
way_down from to = unsigned_abs (int_max (from -ℤ to) (pos 0))

-- what is left of the way down to a moment falls
pub way_falls : (next start moment : ℤ) → next <ℤ start → moment <ℤ start → way_down next moment < way_down start moment
way_falls next start moment less below = omega (arith, ints, clamps, less, below)

-- the last release before a moment, or a moment before it where there is none, comes before it
pub falls_back : (question : PhasedQuestion) (last : Option ℤ) (start other : ℤ) → MatchOption last (question.in_phase ≡ []) (IsLastReleaseBefore question start)
    → other <ℤ start → unwrap_or last other <ℤ start
falls_back question None start other is before = before
falls_back question (Some last) start other is before = less last start is.before
  where
    less : (a b : ℤ) → (a +ℤ pos 1) ≤ℤ b → a <ℤ b
    less a b by = omega (arith, ints, by)

-- a beginning of an arrival lies near it, and both near 0
pub record IsNear (question : PhasedQuestion) (arrival start : ℤ) : Type 0 where
  pub jitter : question.beside.jitter ≤ 1000000000000
  pub there : pos 0 ≤ℤ arrival
  pub before : arrival ≤ℤ pos 10000000000000000
  pub after : arrival ≤ℤ (start +ℤ pos 1000000000000)
  pub by : start ≤ℤ (arrival +ℤ pos question.beside.jitter)

module _ (question : PhasedQuestion) (range : IsPhasedInRange question) (arrival : ℤ) (there : pos 0 ≤ℤ arrival) (within : arrival <ℤ pos question.cycle) where
  pub held_arrival : held arrival ≡ arrival
  held_arrival = omega (arith, ints, there, within, range.short)

  pub held_before : held (held arrival -ℤ pos 1) ≡ (arrival -ℤ pos 1)
  held_before = omega (arith, ints, there, within, range.short)

  module _ (start before : ℤ) (not_after : before ≤ℤ held (held arrival -ℤ pos 1)) (near : (held (held arrival -ℤ pos 1) -ℤ pos MOST_TICKS) ≤ℤ before)
      (after : lt_z (held before) start ≡ true) (by : start ≤ℤ (held arrival +ℤ pos question.beside.jitter)) where
    pub before_held : held before ≡ before
    before_held = omega (arith, ints, held_before, there, within, range.short, near, not_after)

    pub is_after : before <ℤ start
    is_after = omega (arith, ints, before_held, after)

    pub near_it : IsNear question arrival start
    near_it = record {
      jitter = omega (arith, range.beside.released_before, range.beside.deadline);
      there = there;
      before = omega (arith, ints, within, range.short);
      after = omega (arith, ints, held_before, near, is_after);
      by = omega (arith, ints, held_arrival, by);
    }

    pub begins_there : before ≡ last_arrival question.arrivals (held (held arrival -ℤ pos 1)) → MayBegin (asked_of question) arrival start
    begins_there is =
        let last : before ≡ last_arrival question.arrivals (arrival -ℤ pos 1) = is ∙ ap (last_arrival question.arrivals) held_before in
        record {
          after = omega (arith, ints, last, is_after);
          by = omega (arith, ints, held_arrival, by);
        }
