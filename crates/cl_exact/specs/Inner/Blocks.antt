-- The moments of many job chains at once. Times are in ticks.
use Rattle.std.specs.Prelude.{◌≡◌, ℕ, ◌+◌, ◌*◌, ◌<◌, ◌≤◌, List, length, slice_index}
use Rattle.cl_exact.specs.{declared.beat.Beat.Beat, Inner.Beats.{beat_in, read_at, first_reader, forward_write, forward_start, forward_end}}

-- moments that are looked at lie at or before this one: those of first jobs at or before the first number, and each hop
-- adds less than a thousandth of it
abbrev pub EARLY : ℕ
EARLY = 4000000000000000000

abbrev pub LATEST : ℕ
LATEST = 8000000000000000000

-- moments that never fall
abbrev pub AreRising : List ℕ → Type 0
AreRising moments = (i j : ℕ) → i ≤ j → j < length moments → slice_index moments i ≤ slice_index moments j

-- none of them lies after another moment
abbrev pub AreBefore : List ℕ → (latest : ℕ) → Type 0
AreBefore moments latest = (i : ℕ) → i < length moments → slice_index moments i ≤ latest

-- the first read at or after some moment that isn't after this one
pub record IsReadUpTo (beat : Beat) (read moment : ℕ) : Type 0 where
  pub earlier : ℕ
  pub not_after : earlier ≤ moment
  pub is_read : read ≡ read_at beat (first_reader beat earlier)

-- moments a period apart
abbrev pub AreSteps : List ℕ → (start period : ℕ) → Type 0
AreSteps moments start period = (i : ℕ) → i < length moments → slice_index moments i ≡ start + i * period

-- the chains of `count` first jobs from `first` on begin early
abbrev pub IsEarlyBlock : List Beat → (first count : ℕ) → Type 0
IsEarlyBlock beats first count = read_at (beat_in beats 0) (first + count) ≤ EARLY

-- the writes of the group of a place, of the chains from the first jobs from `first` on
abbrev pub AreWrites : List Beat → (place first : ℕ) → List ℕ → Type 0
AreWrites beats place first moments = (i : ℕ) → i < length moments → slice_index moments i ≡ forward_write beats (first + i) place

-- the moments from which and to which these chains last
abbrev pub AreStarts : List Beat → (first : ℕ) → List ℕ → Type 0
AreStarts beats first starts = (i : ℕ) → i < length starts → slice_index starts i ≡ forward_start beats (first + i)

abbrev pub AreEnds : List Beat → (first : ℕ) → List ℕ → Type 0
AreEnds beats first ends = (i : ℕ) → i < length ends → slice_index ends i ≡ forward_end beats (first + i)
