-- Phases: arrivals that are fixed, continued over all whole numbers of periods, so that nothing begins or ends. Times
-- are in ticks, and may lie before 0.
use Rattle.std.specs.Prelude.{◌≡◌, ℕ, ℤ, pos, ◌+ℤ◌, ◌-ℤ◌, ◌*ℤ◌, ◌-◌, ◌*◌, ◌/◌, ◌<◌, ◌≤◌, ◌==◌, min, nat_le, Bool, unsigned_abs, if◌then◌else◌, Option, Some, None}
use Rattle.std.specs.Int.{div_ceil, int_rem_euclid}
use Rattle.cl_model.specs.declared.{limits.TheConstants.{MOST_TICKS, MOST_JOBS_OF_BURST}, stimulus.StimulusKind.{StimulusKind, TheVariants.{Periodic, Sporadic, Burst}}}
use Rattle.cl_stim.specs.{declared.phase.Phase.Phase, Integers.IsIntegerWithin}

-- the phase of a stimulus whose arrivals are fixed
abbrev pub phase_of : StimulusKind → Option Phase
phase_of (Periodic period offset jitter) = Some (record { period = period; offset = offset; count = 1; distance = period })
phase_of (Sporadic least greatest) = None
phase_of (Burst period offset count distance) = Some (record { period = period; offset = offset; count = count; distance = distance })

-- a phase that comes round: a job or more a period, at least a tick apart, and all of them within it
pub record IsPhase (phase : Phase) : Type 0 where
  pub some : 1 ≤ phase.count
  pub apart : 1 ≤ phase.distance
  pub fits : phase.count * phase.distance ≤ phase.period

-- its numbers are those of a valid model
pub record IsPhaseInRange (phase : Phase) : Type 0 where
  pub is_phase : IsPhase phase
  pub offset : phase.offset < phase.period
  pub period : phase.period ≤ MOST_TICKS
  pub count : phase.count ≤ MOST_JOBS_OF_BURST

-- a job of the phase arrives at a moment: in some period, at some place in it
pub record IsArrivalOf (phase : Phase) (moment : ℤ) : Type 0 where
  pub turn : ℤ
  pub place : ℕ
  pub within : place < phase.count
  pub arrives : moment ≡ (pos phase.offset +ℤ (turn *ℤ pos phase.period)) +ℤ pos (place * phase.distance)

-- how long ago at a moment its period began
abbrev pub since_turn : Phase → (moment : ℤ) → ℕ
since_turn phase moment = unsigned_abs (int_rem_euclid (moment -ℤ pos phase.offset) (pos phase.period))

-- from the beginning of a period to the first arrival that isn't before so many ticks of it: that of a job of the
-- period, or the first of the next one
abbrev pub first_in_turn : Phase → (since : ℕ) → ℕ
first_in_turn phase since =
    if nat_le since ((phase.count - 1) * phase.distance) then div_ceil since phase.distance * phase.distance else phase.period

-- from the beginning of a period to the last arrival that isn't after so many ticks of it
abbrev pub last_in_turn : Phase → (since : ℕ) → ℕ
last_in_turn phase since = min (since / phase.distance) (phase.count - 1) * phase.distance

-- the first arrival at or after a moment
abbrev pub first_arrival : Phase → (moment : ℤ) → ℤ
first_arrival phase moment = (moment -ℤ pos (since_turn phase moment)) +ℤ pos (first_in_turn phase (since_turn phase moment))

-- the last arrival at or before a moment
abbrev pub last_arrival : Phase → (moment : ℤ) → ℤ
last_arrival phase moment = (moment -ℤ pos (since_turn phase moment)) +ℤ pos (last_in_turn phase (since_turn phase moment))

-- whether a job of the phase arrives at a moment
abbrev pub arrives_at : Phase → (moment : ℤ) → Bool
arrives_at phase moment = last_in_turn phase (since_turn phase moment) == since_turn phase moment

-- two arrivals of the phase, one after the other
abbrev pub AreConsecutive : Phase → (before after : ℤ) → Type 0
AreConsecutive phase before after = IsArrivalOf phase after × (before ≡ last_arrival phase (after -ℤ pos 1))

-- how many jobs of a phase arrive in so many ticks, where its period divides them
abbrev pub arrivals_in : (ticks : ℕ) → Phase → ℕ
arrivals_in ticks phase = ticks / phase.period * phase.count

-- all moments about which arrivals are sought lie at most so far from 0, so that 64 signed bits
-- hold them
abbrev pub FARTHEST : ℕ
FARTHEST = 3000000000000000000

abbrev pub IsMoment : ℤ → Type 0
IsMoment moment = IsIntegerWithin FARTHEST moment
