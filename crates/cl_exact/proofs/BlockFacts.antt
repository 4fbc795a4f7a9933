-- The moments of many job chains at once, hop after hop.
use Rattle.std.proofs.Common.{◌≡◌, ℕ, zero, suc, ◌+◌, ◌-◌, ◌*◌, ◌<◌, ◌≤◌, List, length, slice_index, ap, subst, ◌∙◌, arith}
use Rattle.cl_exact.specs.{declared.beat.Beat.Beat, Inner.{Beats.{IsBeat, AreBeats, beat_in, read_at, first_reader, hop_to}, Blocks.{LATEST, AreRising, AreBefore, IsReadUpTo, IsEarlyBlock, AreWrites}}}
use Rattle.cl_exact.proofs.{BeatFacts.{reads_rise, reader_is, reader_least, reader_rises, reads_rise_back}, ForwardJobs.{writes_rise, writes_soon}}

-- where a read is the first up to some moment, and it isn't before a moment, it is the first for that one
pub read_stays : (beat : Beat) → IsBeat beat → (read moment : ℕ) → IsReadUpTo beat read moment → moment ≤ read
    → read ≡ read_at beat (first_reader beat moment)
read_stays beat is read moment so_far le =
    let k = first_reader beat so_far.earlier in
    let rises = reader_rises beat is.some_period so_far.earlier moment so_far.not_after in
    let least = reader_least beat is.some_period moment k (omega (arith, so_far.is_read)) in
    let same : k ≡ first_reader beat moment = omega arith in
    omega (arith, so_far.is_read, ap (read_at beat) same)

-- and else, where the next one isn't, it is the next
pub read_moves : (beat : Beat) → IsBeat beat → (read moment : ℕ) → IsReadUpTo beat read moment → read < moment → moment ≤ read + beat.period
    → read + beat.period ≡ read_at beat (first_reader beat moment)
read_moves beat is read moment so_far past le =
    let k = first_reader beat so_far.earlier in
    let next : read_at beat (suc k) ≡ read + beat.period = omega (arith, so_far.is_read) in
    let same : suc k ≡ first_reader beat moment = reader_is beat is.some_period moment (suc k) (omega (arith, le, next))
    (λ other after. reads_rise_back beat k other (omega (arith, so_far.is_read, past))) in
    omega (arith, next, ap (read_at beat) same)

-- the first read of all is that up to moment 0
pub first_read : (beat : Beat) → IsBeat beat → (moment : ℕ) → IsReadUpTo beat beat.offset moment
first_read beat is moment = record {
  earlier = 0;
  not_after = omega arith;
  is_read =
      let none : 0 ≡ first_reader beat 0 = reader_is beat is.some_period 0 0 (omega arith) (λ other after. omega arith) in
      omega (arith, ap (read_at beat) none);
}

module _ (beats : List Beat) (are : AreBeats beats) where
  -- the writes of a group are in order
  pub are_rising : (place first : ℕ) (moments : List ℕ) → place < length beats → AreWrites beats place first moments → AreRising moments
  are_rising place first moments within writes i j le below =
      omega (arith, writes i (omega arith), writes j below, writes_rise beats are (first + i) (first + j) place within (omega arith))

  -- and early enough
  pub are_before : (place first : ℕ) (moments : List ℕ) → place < length beats → AreWrites beats place first moments
      → IsEarlyBlock beats first (length moments) → AreBefore moments LATEST
  are_before place first moments within writes early i below =
      omega (
        arith,
        are.few,
        writes i below,
        writes_soon beats are (first + i) place within,
        reads_rise (beat_in beats 0) (first + i) (first + length moments) (omega arith),
      )

-- reads of first jobs are a period apart
pub steps_of_starts : (beat : Beat) (first i : ℕ) → 1 ≤ first → read_at beat (first - 1) + i * beat.period ≡ read_at beat (first + i - 1)
steps_of_starts beat first i some =
    let same : first + i - 1 ≡ first - 1 + i = omega arith in
    omega (arith, ap (λ job. job * beat.period) same)

-- a hop from the writes of a group leads to those of the next
pub hopped_writes : (beats : List Beat) (place first : ℕ) (moments hopped : List ℕ) → 1 ≤ place → length hopped ≡ length moments
    → AreWrites beats (place - 1) first moments
    → ((i : ℕ) → i < length moments → slice_index hopped i ≡ hop_to (beat_in beats place) (slice_index moments i))
    → AreWrites beats place first hopped
hopped_writes beats zero first moments hopped some as_many writes hops i below = absurd (omega (arith, some))
hopped_writes beats (suc place) first moments hopped some as_many writes hops i below =
    let there : i < length moments = omega (arith, below, as_many) in
    let before : suc place - 1 ≡ place = omega arith in
    hops i there ∙ ap (hop_to (beat_in beats (suc place))) (subst (λ n. AreWrites beats n first moments) before writes i there)
