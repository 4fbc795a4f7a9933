-- A forward chain ends at or before a job exactly where it begins at or before the first job of its backward chain. So
-- reaction and age are equal.
use Rattle.std.proofs.Common.{◌≡◌, ℕ, zero, suc, ◌+◌, ◌-◌, ◌<◌, ◌≤◌, List, length, ap, arith, inl, inr}
use Rattle.std.specs.Prelude.{slice_index}
use Rattle.std.proofs.lemmas.Bool.{cases_lt}
use Rattle.cl_exact.specs.{declared.beat.Beat.Beat, Inner.{Beats.{AreBeats, beat_in, read_at, write_at, forward_job, forward_write, reaction_of}, Walks.IsBackwardWalk, Found.{last_beat, IsComplete, age_of}}}
use Rattle.cl_exact.proofs.BeatFacts.{reads_rise, reader_after, reader_least, next_read, some_period, last_place}

module _ (beats : List Beat) (are : AreBeats beats) (last : ℕ) (jobs : List ℕ) (back : IsBackwardWalk beats last jobs) where
  -- where a forward chain passes a backward chain at or before its job, it begins at or before its first
  pub begins_before : (first place : ℕ) → place < length beats → forward_job beats first place ≤ slice_index jobs place → first ≤ slice_index jobs 0
  begins_before first zero within le = le
  begins_before first (suc place) within le =
      let after = reader_after (beat_in beats (suc place)) (some_period beats are (suc place) within) (forward_write beats first place) in
      let before = reads_rise (beat_in beats (suc place)) (forward_job beats first (suc place)) (slice_index jobs (suc place)) le in
      begins_before first place (omega (arith, within)) ((back.linked place within).greatest (forward_job beats first place) (omega (arith, after, before)))

  -- and the other way round
  pub passes_before : (first place : ℕ) → place < length beats → first ≤ slice_index jobs 0 → forward_job beats first place ≤ slice_index jobs place
  passes_before first zero within le = le
  passes_before first (suc place) within le =
      let so_far = passes_before first place (omega (arith, within)) le in
      let link = back.linked place within in
      let writes = reads_rise (beat_in beats place) (forward_job beats first place) (slice_index jobs place) so_far in
      reader_least (beat_in beats (suc place)) (some_period beats are (suc place) within) (forward_write beats first place) (slice_index jobs (suc place))
      (omega (arith, link.before, writes))

  -- a chain that ends after the last job begins after the first
  pub begins_after : (first : ℕ) → last < forward_job beats first (length beats - 1) → slice_index jobs 0 < first
  begins_after first later = elim (cases_lt (slice_index jobs 0) first) [
    | inl after ↦ after
    | inr before ↦ absurd (omega (arith, passes_before first (length beats - 1) (last_place beats are) before, back.last_is, later))
  ]

  -- and the other way round: it passes each job of the backward chain after it
  pub passes_after : (first place : ℕ) → place < length beats → slice_index jobs 0 < first → slice_index jobs place < forward_job beats first place
  passes_after first place within after = elim (cases_lt (slice_index jobs place) (forward_job beats first place)) [
    | inl later ↦ later
    | inr before ↦ absurd (omega (arith, begins_before first place within before, after))
  ]

  -- so it is complete, and ends after the last job
  pub complete_after : (first : ℕ) → slice_index jobs 0 < first → IsComplete beats first
  complete_after first after place within = omega (arith, passes_after first place within after)

  pub ends_after : (first : ℕ) → slice_index jobs 0 < first → last < forward_job beats first (length beats - 1)
  ends_after first after = omega (arith, passes_after first (length beats - 1) (last_place beats are) after, back.last_is)

  -- the age of the chain is at most the reaction of the forward chain from the next first job
  pub age_at_most : age_of beats last jobs ≤ reaction_of beats (slice_index jobs 0 + 1)
  age_at_most =
      let first : ℕ = slice_index jobs 0 + 1 in
      let ends = ends_after first (omega arith) in
      let same : first - 1 ≡ slice_index jobs 0 = omega arith in
      omega (
        arith,
        reads_rise (last_beat beats) (last + 1) (forward_job beats first (length beats - 1)) (omega (arith, ends)),
        ap (read_at (beat_in beats 0)) same,
      )

  -- and where it is as great, that chain ends with the next last job
  pub ends_with_next : reaction_of beats (slice_index jobs 0 + 1) ≤ age_of beats last jobs → 1 ≤ age_of beats last jobs
      → forward_job beats (slice_index jobs 0 + 1) (length beats - 1) ≡ last + 1
  ends_with_next le some =
      let first : ℕ = slice_index jobs 0 + 1 in
      let job : ℕ = forward_job beats first (length beats - 1) in
      let ends = ends_after first (omega arith) in
      let same : first - 1 ≡ slice_index jobs 0 = omega arith in
      elim (cases_lt (last + 1) job) [
        | inl more ↦
            let next = next_read (last_beat beats) (last + 1) in
            let far = reads_rise (last_beat beats) (suc (last + 1)) job more in
            absurd (omega (arith, far, next, some_period beats are (length beats - 1) (last_place beats are), ap (read_at (beat_in beats 0)) same, le, some))
        | inr less ↦ omega (arith, ends, less)
      ]

  -- the age of a chain whose next last job ends a forward chain is at least that one's reaction
  pub age_at_least : (first : ℕ) → forward_job beats first (length beats - 1) ≡ last + 1 → reaction_of beats first ≤ age_of beats last jobs
  age_at_least first ends =
      let after = begins_after first (omega (arith, ends)) in
      omega (
        arith,
        ap (write_at (last_beat beats)) ends,
        reads_rise (beat_in beats 0) (slice_index jobs 0) (first - 1) (omega (arith, after)),
      )

  -- its first read lies at or before each later read of it
  pub reads_before : (place : ℕ) → place < length beats → read_at (beat_in beats 0) (slice_index jobs 0) ≤ read_at (beat_in beats place) (slice_index jobs place)
  reads_before zero within = omega arith
  reads_before (suc place) within = omega (arith, reads_before place (omega (arith, within)), (back.linked place within).before)

  pub reads_before_last : read_at (beat_in beats 0) (slice_index jobs 0) ≤ read_at (last_beat beats) last
  reads_before_last = omega (arith, reads_before (length beats - 1) (last_place beats are), ap (read_at (last_beat beats)) back.last_is)
