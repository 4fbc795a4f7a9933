-- The first jobs whose chains meet in one job of a group: they end together, and the last of them is found by a walk
-- back.
use Rattle.std.proofs.Common.{◌≡◌, ℕ, zero, suc, ◌+◌, ◌-◌, ◌*◌, ◌<◌, ◌≤◌, List, length, ap, subst, arith}
use Rattle.cl_exact.specs.{declared.{beat.Beat.Beat, scan.Greatest.Greatest}, Inner.{Beats.{AreBeats, beat_in, read_at, write_at, first_reader, last_writer, forward_job, forward_write, forward_end}, Blocks.EARLY, Scans.{IsGreatestOf, FallsUpTo}}}
use Rattle.cl_exact.proofs.{BeatFacts.{reads_rise, reader_after, reader_least, writer_before, writer_greatest, some_period}, ForwardJobs.{HOP, jobs_rise, writes_soon, reaction_some}}

-- where a walk back from a job of a place stands: it has not passed the chain of the first job, and each first job whose
-- chain leads to its job of a place, or to an earlier one, leads to the job from which it began, or to an earlier one
pub record IsLedBack (beats : List Beat) (first from job place last : ℕ) : Type 0 where
  pub within : place ≤ from
  pub not_before : forward_job beats first place ≤ last
  pub lead : (other : ℕ) → forward_job beats other place ≤ last → forward_job beats other from ≤ job
  pub early : read_at (beat_in beats place) last ≤ EARLY + 64 * HOP

module _ (beats : List Beat) (are : AreBeats beats) (first from job : ℕ) (from_within : from < length beats) where
  pub back_begins : job ≡ forward_job beats first from → read_at (beat_in beats 0) first ≤ EARLY → IsLedBack beats first from job from job
  back_begins is early = record {
    within = omega arith;
    not_before = omega (arith, is);
    lead = λ other le. le;
    early = omega (arith, early, are.few, from_within, writes_soon beats are first from from_within, ap (read_at (beat_in beats from)) is);
  }

  -- the group before has written by then
  pub back_has_writer : (place last : ℕ) → suc place ≤ from → IsLedBack beats first from job (suc place) last
      → (beat_in beats place).offset + (beat_in beats place).deadline ≤ read_at (beat_in beats (suc place)) last
  back_has_writer place last below led =
      let reader = beat_in beats (suc place) in
      omega (
        arith,
        reader_after reader (some_period beats are (suc place) (omega (arith, below, from_within))) (forward_write beats first place),
        reads_rise reader (forward_job beats first (suc place)) last led.not_before,
      )

  pub back_goes_on : (place last : ℕ) → suc place ≤ from → IsLedBack beats first from job (suc place) last
      → IsLedBack beats first from job place (last_writer (beat_in beats place) (read_at (beat_in beats (suc place)) last))
  back_goes_on place last below led =
      let reader = beat_in beats (suc place) in
      let writer = beat_in beats place in
      let read = read_at reader last in
      let some_writer = some_period beats are place (omega (arith, below, from_within)) in
      let some_reader = some_period beats are (suc place) (omega (arith, below, from_within)) in
      let before = writer_before writer read (back_has_writer place last below led) in
      record {
        within = omega (arith, below);
        not_before = writer_greatest writer some_writer read (forward_job beats first place)
            (omega (arith, reader_after reader some_reader (forward_write beats first place), reads_rise reader (forward_job beats first (suc place)) last led.not_before));
        lead = λ other le. led.lead other
            (reader_least reader some_reader (forward_write beats other place) last
            (omega (arith, before, reads_rise writer (forward_job beats other place) (last_writer writer read) le)));
        early = omega (arith, led.early, before);
      }

-- ---- what meets ends together

module _ (beats : List Beat) (are : AreBeats beats) where
  -- chains that meet at a place go on together
  together : (one other place more : ℕ) → forward_job beats one place ≡ forward_job beats other place
      → forward_job beats one (place + more) ≡ forward_job beats other (place + more)
  together one other place zero same = subst (λ n. forward_job beats one n ≡ forward_job beats other n) (plus_zero place) same
    where
      plus_zero : (n : ℕ) → n ≡ n + 0
      plus_zero n = omega arith
  together one other place (suc more) same =
      let rest = together one other place more same in
      let next : suc (place + more) ≡ place + suc more = omega arith in
      subst (λ n. forward_job beats one n ≡ forward_job beats other n) next
      (ap (λ job. first_reader (beat_in beats (suc (place + more))) (write_at (beat_in beats (place + more)) job)) rest)

  pub meet_and_fall : (place first last : ℕ) → 1 ≤ first → place < length beats → ((other : ℕ) → other ≤ last → forward_job beats other place ≤ forward_job beats first place)
      → FallsUpTo beats first (last + 1)
  meet_and_fall place first last positive within lead job after below =
      let same : forward_job beats first place ≡ forward_job beats job place =
      omega (arith, lead job (omega (arith, below)), jobs_rise beats are first job place within (omega (arith, after))) in
      let place_to_end : place + (length beats - 1 - place) ≡ length beats - 1 = omega (arith, within) in
      let ends = subst (λ n. forward_job beats first n ≡ forward_job beats job n) place_to_end (together first job place (length beats - 1 - place) same) in
      let end : forward_end beats first ≡ forward_end beats job = ap (write_at (beat_in beats (length beats - 1))) ends in
      let beat = beat_in beats 0 in
      let some = some_period beats are 0 are.some in
      let later : read_at beat (suc (first - 1)) ≤ read_at beat (job - 1) = reads_rise beat (suc (first - 1)) (job - 1) (omega (arith, positive, after)) in
      omega (arith, end, later, some, reaction_some beats are job)

-- ---- the greatest reaction

-- the greatest of the first jobs up to one, and that one is the next whose chain is looked at
pub record IsGreatestUpTo (beats : List Beat) (first end job : ℕ) (greatest : Greatest) : Type 0 where
  pub from : first ≤ job
  pub greatest_of : IsGreatestOf beats first (job - first) greatest
  pub none : job ≡ first → greatest.reaction ≡ 0
  pub early : first < job → greatest.job < end

-- ---- the first with a reaction that none exceeds
