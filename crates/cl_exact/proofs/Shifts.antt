-- Forward chains repeat after each common multiple of the periods, so the greatest reaction over one is the greatest
-- over all.
use Rattle.std.proofs.Common.{◌≡◌, ℕ, zero, suc, ◌+◌, ◌-◌, ◌*◌, ◌/◌, ◌%◌, ◌<◌, ◌≤◌, List, length, sym, ap, ◌∙◌, arith, inl, inr}
use Rattle.std.proofs.lemmas.Bool.{cases_lt}
use Rattle.std.proofs.Math.Nat.{div-mul_cancel, mul-le-mul_right}
use Rattle.cl_exact.specs.{declared.{beat.Beat.Beat, scan.Greatest.Greatest}, Inner.{Beats.{AreBeats, beat_in, read_at, write_at, first_reader, forward_job, forward_write, forward_start, forward_end, reaction_of}, Periods.IsMultipleOfFirst, Scans.IsGreatestOf, Found.IsComplete}}
use Rattle.cl_exact.specs.Inner.Found.{IsGreatestReaction}
use Rattle.cl_exact.proofs.{BeatFacts.{reads_rise_back, reader_is, reader_after, reader_least, some_period, last_place}, ForwardJobs.jobs_rise}

-- a later moment by so many periods has a first reader that is so many jobs later, but for the very first
reader_shifts : (beat : Beat) (t turns ticks : ℕ) → 1 ≤ beat.period → turns * beat.period ≡ ticks → 1 ≤ first_reader beat t
    → first_reader beat (t + ticks) ≡ first_reader beat t + turns
reader_shifts beat t turns ticks some whole not_first =
    let k : ℕ = first_reader beat t in
    let after = reader_after beat some t in
    let later : read_at beat (k + turns) ≡ read_at beat k + ticks = omega (arith, whole) in
    let before : read_at beat (k - 1) < t = elim (cases_lt (read_at beat (k - 1)) t) [
      | inl less ↦ less
      | inr more ↦ absurd (omega (arith, reader_least beat some t (k - 1) more, not_first))
    ] in
    let before_later : read_at beat (k - 1 + turns) ≡ read_at beat (k - 1) + ticks = omega (arith, whole) in
    sym (reader_is beat some (t + ticks) (k + turns) (omega (arith, after, later))
    (λ other enough. omega (arith, reads_rise_back beat (k - 1 + turns) other (omega (arith, enough, before, before_later)), not_first)))

module _ (beats : List Beat) (are : AreBeats beats) (ticks : ℕ) (multiple : IsMultipleOfFirst beats (length beats) ticks) where
  -- how many jobs of a group there are in the multiple
  abbrev pub turns_of : (place : ℕ) → ℕ
  turns_of place = ticks / (beat_in beats place).period

  pub whole_turns : (place : ℕ) → place < length beats → turns_of place * (beat_in beats place).period ≡ ticks
  whole_turns place within = div-mul_cancel (beat_in beats place).period (multiple place within within)

  -- so many first jobs later, each job is so many later too
  jobs_shift : (first place : ℕ) → place < length beats → IsComplete beats first
      → forward_job beats (first + turns_of 0) place ≡ forward_job beats first place + turns_of place
  jobs_shift first zero within complete = omega arith
  jobs_shift first (suc place) within complete =
      let before : place < length beats = omega (arith, within) in
      let shifted : forward_write beats (first + turns_of 0) place ≡ forward_write beats first place + ticks =
      ap (write_at (beat_in beats place)) (jobs_shift first place before complete) ∙ omega (arith, whole_turns place before) in
      ap (first_reader (beat_in beats (suc place))) shifted
      ∙ reader_shifts (beat_in beats (suc place)) (forward_write beats first place) (turns_of (suc place)) ticks (some_period beats are (suc place) within)
      (whole_turns (suc place) within) (complete (suc place) within)

  -- and the reaction is the same
  reaction_shifts : (first : ℕ) → IsComplete beats first → reaction_of beats (first + turns_of 0) ≡ reaction_of beats first
  reaction_shifts first complete =
      let end : forward_end beats (first + turns_of 0) ≡ forward_end beats first + ticks =
      ap (write_at (beat_in beats (length beats - 1))) (jobs_shift first (length beats - 1) (last_place beats are) complete)
      ∙ omega (arith, whole_turns (length beats - 1) (last_place beats are)) in
      let some : 1 ≤ first = complete 0 are.some in
      let next : first + turns_of 0 - 1 ≡ first - 1 + turns_of 0 = omega (arith, some) in
      let start : forward_start beats (first + turns_of 0) ≡ forward_start beats first + ticks =
      ap (read_at (beat_in beats 0)) next ∙ omega (arith, whole_turns 0 are.some) in
      omega (arith, end, start)

  -- later first jobs have complete chains too
  pub complete_rises : (one other : ℕ) → one ≤ other → IsComplete beats one → IsComplete beats other
  complete_rises one other le complete place within = omega (arith, complete place within, jobs_rise beats are one other place within le)

  pub reaction_repeats : (first times : ℕ) → IsComplete beats first → reaction_of beats (first + times * turns_of 0) ≡ reaction_of beats first
  reaction_repeats first zero complete = ap (reaction_of beats) (omega arith)
  reaction_repeats first (suc times) complete =
      let later = complete_rises first (first + times * turns_of 0) (omega arith) complete in
      ap (reaction_of beats) (omega arith) ∙ reaction_shifts (first + times * turns_of 0) later ∙ reaction_repeats first times complete

  module _ (some : 1 ≤ ticks) where
    pub some_turns : 1 ≤ turns_of 0
    some_turns = elim (cases_lt 0 (turns_of 0)) [
      | inl more ↦ more
      | inr none ↦
          let zero_turns : turns_of 0 ≡ 0 = omega (arith, none) in
          absurd (omega (arith, whole_turns 0 are.some, ap (λ n. n * (beat_in beats 0).period) zero_turns, some))
    ]

    -- a chain has the reaction of each that is a multiple later
    pub same_turn : (first base : ℕ) → first ≤ base → IsComplete beats first
        → reaction_of beats (first + (base - first) % turns_of 0) ≡ reaction_of beats base
    same_turn first base le complete =
        let turns : ℕ = turns_of 0 in
        let division : turns * ((base - first) / turns) + (base - first) % turns ≡ base - first = omega arith in
        let later = complete_rises first (first + (base - first) % turns) (omega arith) complete in
        let whole : first + (base - first) % turns + (base - first) / turns * turns ≡ base = omega (arith, division, le) in
        sym (reaction_repeats (first + (base - first) % turns) ((base - first) / turns) later) ∙ ap (reaction_of beats) whole

    pub rest_below : (n : ℕ) → n % turns_of 0 < turns_of 0
    rest_below n = let turns : ℕ = turns_of 0 in let up : 1 ≤ turns = some_turns in omega arith

    at_least_once : (n : ℕ) → n ≤ n * turns_of 0
    at_least_once n = let more : 1 * n ≤ turns_of 0 * n = mul-le-mul_right n some_turns in omega arith

    -- what is at least each reaction over one multiple is at least all
    pub above_over_all : (first reaction : ℕ) → IsComplete beats first
        → ((job : ℕ) → first ≤ job → job < first + turns_of 0 → reaction_of beats job ≤ reaction)
        → (job : ℕ) → IsComplete beats job → reaction_of beats job ≤ reaction
    above_over_all first reaction complete above job job_complete =
        let base : ℕ = job + first * turns_of 0 in
        let up : first ≤ base = omega (arith, at_least_once first) in
        let same = same_turn first base up complete ∙ reaction_repeats job first job_complete in
        omega (arith, same, above (first + (base - first) % turns_of 0) (omega arith) (omega (arith, rest_below (base - first))))

    -- the greatest over one multiple is the greatest over all
    pub greatest_over_all : (first : ℕ) (greatest : Greatest) → IsComplete beats first → IsGreatestOf beats first (turns_of 0) greatest
        → IsGreatestReaction beats (turns_of 0) greatest.reaction
    greatest_over_all first greatest complete is = record {
      above_all = above_over_all first greatest.reaction complete is.above_all;
      everywhere = λ job job_complete none.
          let base : ℕ = greatest.job + job * turns_of 0 in
          let up : job ≤ base = omega (arith, at_least_once job) in
          let has = same_turn job base up job_complete
          ∙ reaction_repeats greatest.job job (complete_rises first greatest.job is.not_before complete)
          ∙ is.attained some_turns in
          none (job + (base - job) % turns_of 0) (omega arith) (omega (arith, rest_below (base - job))) has;
    }
