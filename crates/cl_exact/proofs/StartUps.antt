-- From which jobs on all tasks of a chain have begun, and that this is soon.
use Rattle.std.proofs.Common.{◌≡◌, ℕ, zero, suc, ◌+◌, ◌-◌, ◌*◌, ◌≤◌, List, length, take, take_all, ap, arith, inl, inr}
use Rattle.std.proofs.lemmas.Bool.{cases_lt}
use Rattle.std.proofs.lemmas.List.Sums.{sum_by_more}
use Rattle.cl_exact.specs.{declared.beat.Beat.Beat, Inner.{Beats.{AreBeats, no_beat, beat_in, read_at, first_reader, forward_job}, Walks.{start_of, start_up_of, IsLatestSecond}, Found.{last_beat, IsComplete}}}
use Rattle.cl_exact.proofs.{BeatFacts.{reader_after, reader_soon, last_place}, ForwardJobs.{HOP, reads_after}}

module _ (beats : List Beat) (are : AreBeats beats) where
  early_sum : (count : ℕ) → count ≤ length beats → start_up_of (take count beats) ≤ count * HOP
  early_sum zero within = omega arith
  early_sum (suc count) within =
      let is = are.each count (omega (arith, within)) in
      let same : count + 1 ≡ suc count = omega arith in
      omega (
        arith,
        early_sum count (omega (arith, within)),
        sum_by_more start_of beats count no_beat (omega (arith, within)),
        ap (λ n. start_up_of (take n beats)) same,
        is.offset,
        is.period,
        is.deadline,
      )

  -- the start-up ends soon
  pub start_up_soon : start_up_of beats ≤ 64 * HOP
  start_up_soon =
      omega (arith, early_sum (length beats) (omega arith), ap start_up_of (take_all (length beats) beats (omega arith)), are.few)

  -- and the first of the last jobs after it reads soon after it
  pub last_steady_soon : (job : ℕ) → job ≡ first_reader (last_beat beats) (start_up_of beats) → read_at (last_beat beats) job ≤ 65 * HOP
  last_steady_soon job is =
      let beat = are.each (length beats - 1) (last_place beats are) in
      omega (
        arith,
        start_up_soon,
        reader_soon (last_beat beats) beat.some_period (start_up_of beats),
        ap (read_at (last_beat beats)) is,
        beat.offset,
        beat.period,
      )

  pub last_steady_late : (job : ℕ) → job ≡ first_reader (last_beat beats) (start_up_of beats) → start_up_of beats ≤ read_at (last_beat beats) job
  last_steady_late job is =
      omega (
        arith,
        reader_after (last_beat beats) (are.each (length beats - 1) (last_place beats are)).some_period (start_up_of beats),
        ap (read_at (last_beat beats)) is,
      )

  -- a first job that reads when job 1 of each group has arrived leads to a complete chain
  pub begun_complete : (first moment : ℕ) → IsLatestSecond beats moment → moment ≤ read_at (beat_in beats 0) first → IsComplete beats first
  begun_complete first moment latest after place within =
      let beat = beat_in beats place in
      let second : read_at beat 1 ≡ beat.offset + beat.period = omega arith in
      elim (cases_lt 0 (forward_job beats first place)) [
        | inl up ↦ up
        | inr none ↦
            let zero_job : forward_job beats first place ≡ 0 = omega (arith, none) in
            absurd (omega (
              arith,
              reads_after beats are first place within,
              ap (read_at beat) zero_job,
              after,
              latest.above_all place within,
              (are.each place within).some_period,
            ))
      ]

  pub steady_soon : (first moment : ℕ) → IsLatestSecond beats moment → first ≡ first_reader (beat_in beats 0) moment
      → read_at (beat_in beats 0) first ≤ 2 * HOP
  steady_soon first moment latest is =
      let beat = are.each 0 are.some in
      let early : moment ≤ 2000000000000 = latest.least 2000000000000 (λ place within.
      omega (arith, (are.each place within).offset, (are.each place within).period)) in
      omega (arith, early, reader_soon (beat_in beats 0) beat.some_period moment, ap (read_at (beat_in beats 0)) is, beat.offset, beat.period)

  pub steady_late : (first moment : ℕ) → first ≡ first_reader (beat_in beats 0) moment → moment ≤ read_at (beat_in beats 0) first
  steady_late first moment is =
      omega (arith, reader_after (beat_in beats 0) (are.each 0 are.some).some_period moment, ap (read_at (beat_in beats 0)) is)
