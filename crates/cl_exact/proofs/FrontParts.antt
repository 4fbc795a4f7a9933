-- Front parts of a chain: their beats, their chains, and their greatest reactions.
use Rattle.std.proofs.Common.{◌≡◌, ℕ, zero, suc, ◌+◌, ◌-◌, ◌/◌, ◌<◌, ◌≤◌, List, length, take, sym, ap, subst, ◌∙◌, arith}
use Rattle.std.specs.Int.{◌∣◌}
use Rattle.std.proofs.lemmas.List.{get_or-take, length-take}
use Rattle.cl_model.specs.declared.group.Group.{Group}
use Rattle.cl_runs.specs.{TaskTiming.System, Chains.{JobChain, first_job, IsForwardChain}, RunChains.ideal_moments}
use Rattle.cl_exact.specs.{declared.{beat.Beat.Beat, fronts.Front.Front}, ExactLengths.{Witnesses, AreExactLengths, IsSteadyForward, chain_of}, Inner.Beats.{AreBeats, AreBeatsOf, no_beat, beat_in, read_at, write_at, first_reader, forward_job, forward_write, forward_start, forward_end}}
use Rattle.cl_exact.specs.Inner.{Beats.reaction_of, Blocks.{EARLY, IsEarlyBlock}, Periods.IsMultipleOfFirst, Walks.IsLatestSecond, Fronts.{reaction_to, IsGreatestTo, IsGreatestSteady, IsWidest}}
use Rattle.cl_exact.proofs.{BeatFacts.reads_rise, ForwardJobs.reaction_some, FixedMoments.{reads_at, forward_complete, forward_length, forward_made}, Shifts.{above_over_all, some_turns, turns_of}, StartUps.{begun_complete, steady_late}, WholeScan.{first_some, scan_early}}
use Rattle.cl_exact.proofs.{Existence.{has_forward, has_latest}, FoundExact.{begun, some_group}}

-- ---- the beats and the chains of a front part

module _ (beats : List Beat) (size : ℕ) where
  pub front_beat : (place : ℕ) → place < size → beat_in (take size beats) place ≡ beat_in beats place
  front_beat place below = get_or-take size beats place no_beat below

  pub front_length : size ≤ length beats → length (take size beats) ≡ size
  front_length within = omega (arith, length-take size beats, within)

  pub front_beats : AreBeats beats → 1 ≤ size → size ≤ length beats → AreBeats (take size beats)
  front_beats are some within = record {
    some = omega (arith, front_length within, some);
    few = omega (arith, front_length within, within, are.few);
    each = λ place below.
        let there : place < size = omega (arith, below, front_length within) in
        rw (front_beat place there) (are.each place (omega (arith, there, within)));
  }

  front_job : (first place : ℕ) → place < size → forward_job (take size beats) first place ≡ forward_job beats first place
  front_job first zero below = omega arith
  front_job first (suc place) below =
      let before : place < size = omega (arith, below) in
      let write : forward_write (take size beats) first place ≡ forward_write beats first place =
      ap (λ (beat : Beat). write_at beat (forward_job (take size beats) first place)) (front_beat place before)
      ∙ ap (write_at (beat_in beats place)) (front_job first place before) in
      ap (λ (beat : Beat). first_reader beat (forward_write (take size beats) first place)) (front_beat (suc place) below)
      ∙ ap (first_reader (beat_in beats (suc place))) write

  pub front_reaction : (first place : ℕ) → size ≤ length beats → size ≡ place + 1
      → reaction_of (take size beats) first ≡ reaction_to beats place first
  front_reaction first place within is =
      let last : length (take size beats) - 1 ≡ place = omega (arith, front_length within, is) in
      let there : place < size = omega (arith, is) in
      let end : forward_end (take size beats) first ≡ forward_write beats first place =
      ap (forward_write (take size beats) first) last
      ∙ ap (λ (beat : Beat). write_at beat (forward_job (take size beats) first place)) (front_beat place there)
      ∙ ap (write_at (beat_in beats place)) (front_job first place there) in
      let start : forward_start (take size beats) first ≡ forward_start beats first =
      ap (λ (beat : Beat). read_at beat (first - 1)) (front_beat 0 (omega (arith, is))) in
      omega (arith, end, start)

-- ---- the greatest reaction

module _ (beats : List Beat) (are : AreBeats beats) (ticks : ℕ) (multiple : IsMultipleOfFirst beats (length beats) ticks) (some : 1 ≤ ticks) where
  -- the greatest reaction over a multiple of the periods, from a first job on that reads when all tasks have begun
  pub greatest_steady : (first reaction job latest : ℕ) → IsLatestSecond beats latest → latest ≤ read_at (beat_in beats 0) first
      → ((other : ℕ) → first ≤ other → other < first + turns_of beats are ticks multiple 0 → reaction_of beats other ≤ reaction)
      → first ≤ job → reaction_of beats job ≡ reaction → IsGreatestSteady beats reaction
  greatest_steady first reaction job latest is_latest late above not_before attained = record {
    above_all = above_over_all beats are ticks multiple some first reaction (begun_complete beats are first latest is_latest late) above;
    job = job;
    attained = attained;
    latest = latest;
    is_latest = is_latest;
    late = omega (arith, late, reads_rise (beat_in beats 0) first job not_before);
  }

-- it is the exact reaction
pub steady_is_exact : (system : System) (groups : List Group) (beats : List Beat) → AreBeatsOf system groups beats → (reaction : ℕ)
    → IsGreatestSteady beats reaction → (exact : Witnesses) → AreExactLengths system groups exact → reaction ≡ exact.reaction.length
steady_is_exact system groups beats of reaction is exact are_exact =
    let are = of.are_beats in
    let longest = are_exact.reaction.longest in
    let chain = chain_of exact.reaction in
    let steady : IsSteadyForward system groups chain = longest.is_chain in
    let complete = begun_complete beats are is.job is.latest is.is_latest is.late in
    let walk = has_forward beats is.job in
    let other : JobChain = record { from = forward_start beats is.job; to = forward_end beats is.job; jobs = walk.0 } in
    let made : IsForwardChain (ideal_moments system) groups other = forward_made system groups beats of is.job walk.0 walk.1 complete in
    let job : first_job other ≡ is.job = walk.1.each 0 are.some in
    let other_steady : IsSteadyForward system groups other = record {
      is_chain = made;
      read = read_at (beat_in beats 0) (first_job other);
      reads = reads_at system groups beats of 0 (first_job other) (some_group system groups beats of);
      steady = begun system groups beats of is.latest (read_at (beat_in beats 0) (first_job other)) is.is_latest
          (omega (arith, is.late, ap (read_at (beat_in beats 0)) job));
    } in
    omega (
      arith,
      are_exact.reaction.length,
      longest.longest other other_steady,
      forward_length system groups beats of other made,
      ap (reaction_of beats) job,
      is.attained,
      forward_length system groups beats of chain steady.is_chain,
      is.above_all (first_job chain) (forward_complete system groups beats of chain steady.is_chain),
    )

-- ---- all front parts at once

-- the greatest reaction up to a place of a front part is that of the part up to it
pub shared_scan : (beats : List Beat) → AreBeats beats → (front : Front) → IsWidest beats front → (first latest : ℕ)
    → IsLatestSecond (take front.size beats) latest → first ≡ first_reader (beat_in (take front.size beats) 0) latest
    → (place greatest : ℕ) → place < front.size
    → IsGreatestTo beats place first (first + front.hyperperiod / (beat_in beats 0).period) greatest
    → IsGreatestSteady (take (place + 1) beats) greatest
shared_scan beats are front wide first latest is_latest first_is place greatest below is =
    let size : ℕ = place + 1 in
    let part = take size beats in
    let whole = take front.size beats in
    let fits : size ≤ length beats = omega (arith, below, wide.size) in
    let part_are = front_beats beats size are (omega arith) fits in
    let part_size : length part ≡ size = front_length beats size fits in
    let whole_size : length whole ≡ front.size = front_length beats front.size wide.size in
    let whole_are = front_beats beats front.size are wide.some wide.size in
    let beat : (k : ℕ) → k < size → beat_in whole k ≡ beat_in part k =
    λ k less. front_beat beats front.size k (omega (arith, less, below)) ∙ sym (front_beat beats size k less) in
    let first_beat : beat_in part 0 ≡ beat_in beats 0 = front_beat beats size 0 (omega arith) in
    let multiple : IsMultipleOfFirst part (length part) front.hyperperiod = λ k _ within.
    let there : k < size = omega (arith, within, part_size) in
    subst (λ (b : Beat). b.period ∣ front.hyperperiod) (beat k there)
    (wide.least.multiple k (omega (arith, there, below, whole_size)) (omega (arith, there, below, whole_size))) in
    let part_latest = has_latest part in
    let earlier : part_latest.0 ≤ latest = part_latest.1.least latest (λ k within.
    let there : k < size = omega (arith, within, part_size) in
    subst (λ (b : Beat). b.offset + b.period ≤ latest) (beat k there) (is_latest.above_all k (omega (arith, there, below, whole_size)))) in
    let late : latest ≤ read_at (beat_in part 0) first =
    subst (λ (b : Beat). latest ≤ read_at b first) (beat 0 (omega arith)) (steady_late whole whole_are first latest first_is) in
    let turns : turns_of part part_are front.hyperperiod multiple 0 ≡ front.hyperperiod / (beat_in beats 0).period =
    ap (λ (b : Beat). front.hyperperiod / b.period) first_beat in
    let same : (job : ℕ) → reaction_of part job ≡ reaction_to beats place job = λ job. front_reaction beats size job place fits (omega arith) in
    let above : (other : ℕ) → first ≤ other → other < first + turns_of part part_are front.hyperperiod multiple 0 → reaction_of part other ≤ greatest =
    λ other after before. omega (arith, same other, is.above_all other after (omega (arith, before, turns))) in
    let some : 1 ≤ greatest = omega (
      arith,
      above first (omega arith) (omega (arith, some_turns part part_are front.hyperperiod multiple wide.least.some)),
      reaction_some part part_are first,
    ) in
    let found = is.attained some in
    greatest_steady part part_are front.hyperperiod multiple wide.least.some first greatest found.0 part_latest.0 part_latest.1
    (omega (arith, earlier, late)) above found.1 (same found.0 ∙ found.2)

-- and the scan of them begins with a job, and early
module _ (beats : List Beat) (are : AreBeats beats) (front : Front) (wide : IsWidest beats front) (first latest : ℕ)
    (is_latest : IsLatestSecond (take front.size beats) latest) (first_is : first ≡ first_reader (beat_in (take front.size beats) 0) latest) where
  pub shared_some : 1 ≤ first
  shared_some =
      first_some (take front.size beats) (front_beats beats front.size are wide.some wide.size) front.hyperperiod wide.least wide.few
      first latest is_latest first_is

  pub shared_early : IsEarlyBlock beats first (front.hyperperiod / (beat_in beats 0).period)
  shared_early =
      subst (λ (beat : Beat). read_at beat (first + front.hyperperiod / beat.period) ≤ EARLY) (front_beat beats front.size 0 wide.some)
      (scan_early (take front.size beats) (front_beats beats front.size are wide.some wide.size) front.hyperperiod wide.least wide.few
      first latest is_latest first_is)
