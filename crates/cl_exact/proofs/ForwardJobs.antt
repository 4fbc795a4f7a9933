-- The jobs of a forward chain: they rise with the first job, and each reads at or after the one before it, and soon
-- after it.
use Rattle.std.proofs.Common.{ℕ, zero, suc, ◌+◌, ◌-◌, ◌*◌, ◌<◌, ◌≤◌, List, length, arith}
use Rattle.cl_exact.specs.{declared.beat.Beat.Beat, Inner.Beats.{AreBeats, beat_in, read_at, forward_job, forward_write, forward_start, forward_end, reaction_of}}
use Rattle.cl_exact.proofs.BeatFacts.{reads_rise, reader_after, reader_rises, reader_soon, some_period}

-- how much later than its write a hop's next write lies at most
abbrev pub HOP : ℕ
HOP = 3000000000000

module _ (beats : List Beat) (are : AreBeats beats) where
  -- they rise with the first job
  pub jobs_rise : (m n place : ℕ) → place < length beats → m ≤ n → forward_job beats m place ≤ forward_job beats n place
  jobs_rise m n zero within le = le
  jobs_rise m n (suc place) within le =
      reader_rises (beat_in beats (suc place)) (some_period beats are (suc place) within) (forward_write beats m place) (forward_write beats n place)
      (omega (arith, reads_rise (beat_in beats place) _ _ (jobs_rise m n place (omega arith) le)))

  pub writes_rise : (m n place : ℕ) → place < length beats → m ≤ n → forward_write beats m place ≤ forward_write beats n place
  writes_rise m n place within le = omega (arith, reads_rise (beat_in beats place) _ _ (jobs_rise m n place within le))

  -- each reads at or after the first
  pub reads_after : (m place : ℕ) → place < length beats → read_at (beat_in beats 0) m ≤ read_at (beat_in beats place) (forward_job beats m place)
  reads_after m zero within = omega arith
  reads_after m (suc place) within =
      omega (
        arith,
        reads_after m place (omega arith),
        reader_after (beat_in beats (suc place)) (some_period beats are (suc place) within) (forward_write beats m place),
      )

  -- and writes soon after it
  pub writes_soon : (m place : ℕ) → place < length beats → forward_write beats m place ≤ read_at (beat_in beats 0) m + suc place * HOP
  writes_soon m zero within = let is = are.each 0 within in omega (arith, is.deadline)
  writes_soon m (suc place) within =
      let is = are.each (suc place) within in
      omega (
        arith,
        is.offset,
        is.period,
        is.deadline,
        writes_soon m place (omega arith),
        reader_soon (beat_in beats (suc place)) is.some_period (forward_write beats m place),
      )

  -- the chain ends after it starts
  pub starts_before_end : (m : ℕ) → forward_start beats m ≤ forward_end beats m
  starts_before_end m =
      omega (
        arith,
        reads_rise (beat_in beats 0) (m - 1) m (omega arith),
        reads_after m (length beats - 1) (omega (arith, are.some)),
      )

  -- each reaction is 1 tick or more
  pub reaction_some : (m : ℕ) → 1 ≤ reaction_of beats m
  reaction_some m =
      omega (
        arith,
        reads_rise (beat_in beats 0) (m - 1) m (omega arith),
        reads_after m (length beats - 1) (omega (arith, are.some)),
        (are.each (length beats - 1) (omega (arith, are.some))).some_deadline,
      )
