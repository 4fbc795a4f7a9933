-- The last job of the oldest chain: the job before the last of the first forward chain that has the greatest reaction.
use Rattle.std.proofs.Common.{◌≡◌, ℕ, ◌+◌, ◌-◌, ◌*◌, ◌<◌, ◌≤◌, List, length, sym, arith, inl, inr}
use Rattle.std.specs.Prelude.{slice_index}
use Rattle.std.proofs.lemmas.Bool.{cases_lt}
use Rattle.cl_exact.specs.{declared.beat.Beat.Beat, Inner.{Beats.{AreBeats, beat_in, read_at, first_reader, forward_job, reaction_of}, Blocks.EARLY, Scans.IsFirstWith, Walks.{IsBackwardWalk, start_up_of}, Found.{last_beat, IsGreatestReaction, age_of, IsOldest, MOST_HYPERPERIOD}}}
use Rattle.cl_exact.proofs.{BeatFacts.{reads_rise, reader_least, last_place}, ForwardJobs.{HOP, jobs_rise, writes_soon, reaction_some}, ReactionAge.{begins_before, passes_before, complete_after, ends_after, age_at_most, ends_with_next, age_at_least, reads_before_last}}
use Rattle.cl_exact.proofs.StartUps.{last_steady_late, last_steady_soon}

module _ (beats : List Beat) (are : AreBeats beats) (count age : ℕ) (greatest : IsGreatestReaction beats count age) where
  -- no age is greater
  pub age_within : (last : ℕ) (jobs : List ℕ) → IsBackwardWalk beats last jobs → age_of beats last jobs ≤ age
  age_within last jobs back =
      omega (
        arith,
        age_at_most beats are last jobs back,
        greatest.above_all (slice_index jobs 0 + 1) (complete_after beats are last jobs back (slice_index jobs 0 + 1) (omega arith)),
      )

  -- where a chain has it, so has the forward chain from the next first job, which ends with the next last job
  next_has : (last : ℕ) (jobs : List ℕ) → IsBackwardWalk beats last jobs → age_of beats last jobs ≡ age
      → reaction_of beats (slice_index jobs 0 + 1) ≡ age
  next_has last jobs back is =
      omega (
        arith,
        is,
        age_at_most beats are last jobs back,
        greatest.above_all (slice_index jobs 0 + 1) (complete_after beats are last jobs back (slice_index jobs 0 + 1) (omega arith)),
      )

  next_ends : (last : ℕ) (jobs : List ℕ) → IsBackwardWalk beats last jobs → age_of beats last jobs ≡ age
      → forward_job beats (slice_index jobs 0 + 1) (length beats - 1) ≡ last + 1
  next_ends last jobs back is =
      let has = next_has last jobs back is in
      ends_with_next beats are last jobs back (omega (arith, has, is)) (omega (arith, has, is, reaction_some beats are (slice_index jobs 0 + 1)))

  module _ (start : ℕ) (walk : List ℕ) (start_is : start ≡ first_reader (last_beat beats) (start_up_of beats)) (back : IsBackwardWalk beats start walk)
      (next : ℕ) (first_with : IsFirstWith beats (slice_index walk 0 + 1) count age next) where
    abbrev end : ℕ
    end = forward_job beats next (length beats - 1)

    pub ends_late : start < end
    ends_late = ends_after beats are start walk back next (omega (arith, first_with.not_before))

    -- a chain of a later last job that has the age follows no earlier forward chain
    no_earlier : (other : ℕ) (jobs : List ℕ) → start ≤ other → IsBackwardWalk beats other jobs → age_of beats other jobs ≡ age
        → end ≤ other + 1
    no_earlier other jobs later other_back is =
        let passes = passes_before beats are start walk back (slice_index walk 0) (length beats - 1) (last_place beats are) (omega arith) in
        let begins = begins_before beats are other jobs other_back (slice_index walk 0) (length beats - 1) (last_place beats are)
        (omega (arith, passes, back.last_is, other_back.last_is, later)) in
        let has = next_has other jobs other_back is in
        let first : next ≤ slice_index jobs 0 + 1 = elim (cases_lt (slice_index jobs 0 + 1) next) [
          | inl earlier ↦ absurd (first_with.first_of (slice_index jobs 0 + 1) (omega (arith, begins)) earlier has)
          | inr done ↦ done
        ] in
        omega (
          arith,
          jobs_rise beats are next (slice_index jobs 0 + 1) (length beats - 1) (last_place beats are) first,
          next_ends other jobs other_back is,
        )

    pub oldest_is : IsOldest beats age (end - 1)
    oldest_is =
        let whole : end - 1 + 1 ≡ end = omega (arith, ends_late) in
        record {
          late = omega (
            arith,
            last_steady_late beats are start start_is,
            reads_rise (last_beat beats) start (end - 1) (omega (arith, ends_late)),
          );
          has = λ jobs jobs_back. omega (
            arith,
            age_within (end - 1) jobs jobs_back,
            age_at_least beats are (end - 1) jobs jobs_back next (sym whole),
            first_with.has,
          );
          first_of = λ other jobs late other_back is.
              let later : start ≤ other = omega (
                arith,
                start_is,
                reader_least (last_beat beats) (are.each (length beats - 1) (last_place beats are)).some_period (start_up_of beats) other late,
              ) in
              omega (arith, no_earlier other jobs later other_back is);
        }

    -- it reads early where the forward chain begins early
    pub oldest_early : read_at (beat_in beats 0) next + 64 * HOP ≤ EARLY → read_at (last_beat beats) (end - 1) ≤ EARLY
    oldest_early near = omega (
      arith,
      near,
      are.few,
      writes_soon beats are next (length beats - 1) (last_place beats are),
      reads_rise (last_beat beats) (end - 1) end (omega arith),
    )

-- a hyperperiod of first jobs from a backward chain on reads early
pub early_block : (beats : List Beat) → AreBeats beats → (start : ℕ) (walk : List ℕ) (count : ℕ) → IsBackwardWalk beats start walk
    → start ≡ first_reader (last_beat beats) (start_up_of beats) → count * (beat_in beats 0).period ≤ MOST_HYPERPERIOD
    → read_at (beat_in beats 0) (slice_index walk 0 + 1 + count) + 64 * HOP ≤ EARLY
early_block beats are start walk count back is few =
    let beat = beat_in beats 0 in
    let job : ℕ = slice_index walk 0 in
    let later : read_at beat (job + 1 + count) ≡ read_at beat job + beat.period + count * beat.period = omega arith in
    omega (arith, later, few, (are.each 0 are.some).period, reads_before_last beats are start walk back, last_steady_soon beats are start is)
