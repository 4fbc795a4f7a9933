-- One hyperperiod of first jobs, from the first steady one on.
use Rattle.std.proofs.Common.{◌≡◌, ℕ, ◌+◌, ◌*◌, ◌/◌, ◌<◌, ◌≤◌, List, arith}
use Rattle.cl_exact.specs.{declared.{beat.Beat.Beat, scan.Greatest.Greatest, witness.Witness.Witness}, Inner.{Beats.{AreBeats, beat_in, read_at, write_at, first_reader, reaction_of}, Blocks.{EARLY, IsEarlyBlock}, Periods.IsLeastMultiple, Scans.IsGreatestOf, Walks.IsLatestSecond}}
use Rattle.cl_exact.specs.Inner.Found.{MOST_HYPERPERIOD, last_beat, IsComplete, IsGreatestReaction, age_of, IsForwardWitness, IsAgeWitness}
use Rattle.cl_exact.proofs.{BeatFacts.reads_rise, ReactionAge.reads_before_last, Shifts.{whole_turns, some_turns, greatest_over_all}, StartUps.{steady_late, steady_soon, begun_complete}}

module _ (beats : List Beat) (are : AreBeats beats) (ticks : ℕ) (least : IsLeastMultiple beats ticks) (few : ticks ≤ MOST_HYPERPERIOD)
    (first latest : ℕ) (is_latest : IsLatestSecond beats latest) (first_is : first ≡ first_reader (beat_in beats 0) latest) where
  -- how many first jobs there are in the hyperperiod
  abbrev pub count : ℕ
  count = ticks / (beat_in beats 0).period

  pub whole_count : count * (beat_in beats 0).period ≡ ticks
  whole_count = whole_turns beats are ticks least.multiple 0 are.some

  pub some_count : 0 < count
  some_count = some_turns beats are ticks least.multiple least.some

  pub first_complete : IsComplete beats first
  first_complete = begun_complete beats are first latest is_latest (steady_late beats are first latest first_is)

  pub first_some : 1 ≤ first
  first_some = first_complete 0 are.some

  pub scan_early : IsEarlyBlock beats first count
  scan_early =
      let later : read_at (beat_in beats 0) (first + count) ≡ read_at (beat_in beats 0) first + count * (beat_in beats 0).period = omega arith in
      omega (arith, later, whole_count, few, steady_soon beats are first latest is_latest first_is)

  pub count_few : count * (beat_in beats 0).period ≤ MOST_HYPERPERIOD
  count_few = omega (arith, whole_count, few)

  module _ (greatest : Greatest) (scanned : IsGreatestOf beats first count greatest) where
    pub is_greatest : IsGreatestReaction beats count greatest.reaction
    is_greatest = greatest_over_all beats are ticks least.multiple least.some first greatest first_complete scanned

    pub job_some : 1 ≤ greatest.job
    job_some = omega (arith, first_some, scanned.not_before)

    pub job_early : read_at (beat_in beats 0) greatest.job ≤ EARLY
    job_early = omega (arith, scan_early, reads_rise (beat_in beats 0) greatest.job (first + count) (omega (arith, scanned.within some_count)))

-- a period fits into an age and into its end, so that both can be shortened by it
pub period_in_age : (beats : List Beat) → AreBeats beats → (last : ℕ) (witness : Witness) → IsAgeWitness beats last witness
    → (last_beat beats).period ≤ witness.length
period_in_age beats are last witness is =
    let next : write_at (last_beat beats) (last + 1) ≡ write_at (last_beat beats) last + (last_beat beats).period = omega arith in
    omega (arith, is.length, is.to, is.from, next, reads_before_last beats are last witness.jobs is.jobs)

pub period_in_end : (beats : List Beat) (last : ℕ) (witness : Witness) → IsAgeWitness beats last witness → (last_beat beats).period ≤ witness.to
period_in_end beats last witness is =
    let next : write_at (last_beat beats) (last + 1) ≡ write_at (last_beat beats) last + (last_beat beats).period = omega arith in
    omega (arith, is.to, next)

-- the witnesses of a reaction and of an age of the same length are of one length
pub same_lengths : (beats : List Beat) (first last length : ℕ) (reaction age : Witness) → IsForwardWitness beats first reaction
    → IsAgeWitness beats last age → reaction_of beats first ≡ length → age_of beats last age.jobs ≡ length → reaction.length ≡ age.length
same_lengths beats first last length reaction age is_reaction is_age attained has =
    omega (
      arith,
      is_reaction.length,
      is_reaction.from,
      is_reaction.to,
      is_age.length,
      is_age.from,
      is_age.to,
      attained,
      has,
    )
