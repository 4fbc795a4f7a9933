-- What is kept of the tasks above while a window rises: what each takes, and up to which width it takes just that.
use Rattle.std.specs.Prelude.{◌≡◌, ℕ, ℤ, ◌*◌, ◌<◌, ◌≤◌, List, length, slice_index, slice_index_or}
use Rattle.cl_stim.specs.{declared.arrivals.TheConstants.MOST_WIDTH, AnyStimulus.kind_of, Releases.most_releases}
use Rattle.cl_resp.specs.{declared.{question.Above.Above, phased.InPhase.InPhase}, Inner.Phased.time_in_phase}

-- what a task above takes of a window of `width` ticks at most
abbrev pub taken_in : Above → (width : ℕ) → ℕ
taken_in above width = most_releases (kind_of above.stimulus) width * above.time

-- and a task in phase, of one that begins at a moment
abbrev pub taken_from : (start : ℤ) → InPhase → (width : ℕ) → ℕ
taken_from start above width = time_in_phase start width above

-- each of the tasks above takes what is kept of it, of any window no narrower than `from` and as wide as is kept of it
-- at most, and that is few ticks
pub record AreTaken {X : Type 0} (taken : X → (width : ℕ) → ℕ) (above : List X) (ticks until : List ℕ) (from : ℕ) : Type 0 where
  pub takes : (k : ℕ) (d : X) → k < length above → (width : ℕ) → from ≤ width → width ≤ slice_index until k
      → taken (slice_index_or above k d) width ≡ slice_index ticks k
  pub few : (k : ℕ) → slice_index ticks k ≤ MOST_WIDTH
