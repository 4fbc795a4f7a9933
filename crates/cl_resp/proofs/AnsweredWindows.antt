-- Where all arrivals are answered within a response, a window from any moment up to the latest
-- release of a job ends within the response of its arrival: for it begins after the arrival before,
-- or serves an earlier one.
use Rattle.std.proofs.Common.{◌≡◌, ℕ, ◌*◌, ℤ, pos, ◌+ℤ◌, ◌-ℤ◌, ◌*ℤ◌, ◌≤ℤ◌, ◌<ℤ◌, negsuc, Option, Some, None, unwrap_or, refl, arith}
use Rattle.std.proofs.lemmas.Int.{ints, by_lt_z}
use Rattle.cl_model.specs.declared.stimulus.StimulusKind.{StimulusKind}
use Rattle.cl_runs.specs.Pattern.{IsPattern}
use Rattle.cl_stim.specs.{declared.phase.Phase.Phase, Phase.{IsPhase, IsArrivalOf, phase_of, first_arrival, last_arrival}}
use Rattle.cl_stim.proofs.{PatternPhases.phase_is, PhaseSteps.{first_arrives, first_after, first_before, last_arrives, last_before}}
use Rattle.cl_cycle.specs.Counts.{each_moment, arrivals_of}
use Rattle.cl_resp.specs.Asked.{Asked, MayBegin, EndsBy, AnswersWithin}

-- ---- when jobs of a task can arrive

-- the phase of a pattern comes round, and so do all moments
phase_comes_round : (kind : StimulusKind) → IsPattern kind → (found : Option Phase) → phase_of kind ≡ found → IsPhase (unwrap_or found each_moment)
phase_comes_round kind well (Some phase) is = phase_is kind phase is well
phase_comes_round kind well None is = record { some = omega arith; apart = omega arith; fits = omega arith }

-- so when jobs can arrive comes round
pub arrivals_phase : (kind : StimulusKind) → IsPattern kind → IsPhase (arrivals_of kind)
arrivals_phase kind well = phase_comes_round kind well (phase_of kind) refl

-- each moment is one of all moments
pub each_arrives : (moment : ℤ) → IsArrivalOf each_moment moment
each_arrives moment = record { turn = moment; place = 0; within = omega arith; arrives = at moment }
  where
    at : (moment : ℤ) → moment ≡ ((pos 0 +ℤ (moment *ℤ pos 1)) +ℤ pos (0 * 1))
    at (pos n) = omega (arith, ints)
    at (negsuc n) = omega (arith, ints)

-- ---- from where a window ends in time

-- one that ends by a moment ends by each later one
ends_later : (asked : Asked) (start latest later : ℤ) → latest ≤ℤ later → EndsBy asked start latest → EndsBy asked start later
ends_later asked start latest later h ends = record {
  width = ends.width;
  some = ends.some;
  by = no_later (start +ℤ pos ends.width) latest later ends.by h;
  enough = ends.enough;
}
  where
    no_later : (a b c : ℤ) → a ≤ℤ b → b ≤ℤ c → a ≤ℤ c
    no_later a b c h k = omega (arith, ints, h, k)

module _ (asked : Asked) (is : IsPhase asked.arrivals) (response : ℕ) (answers : AnswersWithin asked response) where
  -- from the first arrival at or after a moment on
  module _ (start : ℤ) where
    abbrev first : ℤ
    first = first_arrival asked.arrivals start

    -- the arrival before it is before the moment
    first_is_next : (last_arrival asked.arrivals (first -ℤ pos 1) +ℤ pos 1) ≤ℤ start
    first_is_next = by_lt_z (last_arrival asked.arrivals (first -ℤ pos 1)) start
        (λ less. next _ _ less)
        (λ not. absurd (twice first _ (last_before asked.arrivals is (first -ℤ pos 1))
        (first_before asked.arrivals is start _ (last_arrives asked.arrivals is (first -ℤ pos 1)) not)))
      where
        next : (a b : ℤ) → a <ℤ b → (a +ℤ pos 1) ≤ℤ b
        next a b h = omega (arith, ints, h)

        twice : (a b : ℤ) → b ≤ℤ (a -ℤ pos 1) → a ≤ℤ b → ⊥
        twice a b h k = omega (arith, ints, h, k)

    -- so its window may begin there
    first_may_begin : MayBegin asked first start
    first_may_begin = record { after = first_is_next; by = within start first asked.jitter (first_after asked.arrivals is start) }
      where
        within : (a b : ℤ) (n : ℕ) → a ≤ℤ b → a ≤ℤ (b +ℤ pos n)
        within a b n h = omega (arith, ints, h)

    -- and ends within the response of that arrival
    first_ends : EndsBy asked start (first +ℤ pos response)
    first_ends = answers first start (first_arrives asked.arrivals is start) first_may_begin

  -- so from any moment up to the latest release of a job, one ends in time
  pub ends_in_time : (arrival start : ℤ) → IsArrivalOf asked.arrivals arrival → start ≤ℤ (arrival +ℤ pos asked.jitter)
      → EndsBy asked start (arrival +ℤ pos response)
  ends_in_time arrival start arrives by = by_lt_z arrival start
      (λ late. answers arrival start arrives (record { after = after arrival start _ late (last_before asked.arrivals is (arrival -ℤ pos 1)); by = by }))
      (λ early. ends_later asked start _ _ (shifted _ arrival response (first_before asked.arrivals is start arrival arrives early)) (first_ends start))
    where
      after : (a b c : ℤ) → a <ℤ b → c ≤ℤ (a -ℤ pos 1) → (c +ℤ pos 1) ≤ℤ b
      after a b c h k = omega (arith, ints, h, k)

      shifted : (a b : ℤ) (n : ℕ) → a ≤ℤ b → (a +ℤ pos n) ≤ℤ (b +ℤ pos n)
      shifted a b n h = omega (arith, ints, h)
