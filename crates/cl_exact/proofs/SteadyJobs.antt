-- A chain of a valid model counts exactly where its first or its last job is a number or later.
use Rattle.std.proofs.Common.{◌≡◌, ℕ, suc, ◌-◌, ◌*◌, ◌<◌, ◌≤◌, ◌↔◌, true, List, length, ap, ◌∙◌, arith, inl, inr}
use Rattle.std.specs.Int.{div_ceil}
use Rattle.std.proofs.lemmas.Bool.{cases_lt}
use Rattle.std.proofs.lemmas.Grind.{div_ceil_times}
use Rattle.std.proofs.Math.Nat.{mul-le-mul_right}
use Rattle.cl_model.specs.{declared.{group.Group.Group, model.SystemModel.SystemModel}, Groups.{group_at, groups_at}, Timing.least_distance, Validity.IsValid}
use Rattle.cl_runs.specs.{Pattern.first_least, TaskTiming.{System, timing_at}, SystemOf.system_of, Chains.{JobChain, last_group, first_job, last_job, IsForwardChain, IsAgeChain, IsReducedChain}, RunChains.ideal_moments}
use Rattle.cl_model.proofs.Greatest.{greatest_least, greatest_within}
use Rattle.cl_exact.specs.{declared.beat.Beat.Beat, TimedPeriodic.is_timed_periodic_chain, Hyperperiod.period_of, ExactLengths.{second_arrival, HaveAllBegun, start_up, IsSteadyForward, IsSteadyAge, IsSteadyReduced}, SteadyJobs.{first_arrival_from, all_begun, first_steady_job}}
use Rattle.cl_exact.specs.{SteadyJobs.last_steady_job, Inner.{Beats.{AreBeatsOf, beat_in, read_at}, Found.last_beat}}
use Rattle.cl_exact.proofs.{FixedMoments.{reads_at, reads_is, last_reads, last_reads_is}, ModelBeats.timed_chain, ModelExact.has_beats}

-- a number over a divisor, rounded up, is at most another exactly where the number is at most its product
ceil_within : (n d k : ℕ) → 1 ≤ d → (n ≤ k * d) ↔ (div_ceil n d ≤ k)
ceil_within n d k some =
    let times = div_ceil_times n d some in (
      λ enough. elim (cases_lt k (div_ceil n d)) [
        | inl less ↦
            let more : suc k * d ≤ div_ceil n d * d = mul-le-mul_right d less in
            absurd (omega (arith, times.1, more, enough))
        | inr le ↦ le
      ],
      λ le.
          let more : div_ceil n d * d ≤ k * d = mul-le-mul_right d le in
          omega (arith, times.0, more),
    )

-- all tasks of a chain have begun exactly from the last of their second arrivals on
begun_from : (system : System) (groups : List Group) (moment : ℕ) → (HaveAllBegun system groups moment) ↔ (all_begun system groups ≤ moment)
begun_from system groups moment = (
  greatest_within (second_arrival system) groups moment,
  λ le k d within. omega (arith, le, greatest_least (second_arrival system) groups k d within),
)

module _ (system : System) (groups : List Group) (beats : List Beat) (of : AreBeatsOf system groups beats) where
  -- a job of a group reads at or after a moment exactly where it is the first such one or later
  reads_from : (place job moment : ℕ) → place < length groups
      → (moment ≤ read_at (beat_in beats place) job) ↔ (first_arrival_from system (group_at groups place) moment ≤ job)
  reads_from place job moment within =
      let beat = beat_in beats place in
      let offset : first_least (timing_at system (group_at groups place).task).pattern ≡ beat.offset =
      ap first_least (of.each place within).periodic in
      let period : period_of system (group_at groups place) ≡ beat.period = ap least_distance (of.each place within).periodic in
      let some : 1 ≤ beat.period = (of.are_beats.each place (omega (arith, within, of.as_many))).some_period in
      let number : first_arrival_from system (group_at groups place) moment ≡ div_ceil (moment - beat.offset) beat.period =
      ap (λ n. div_ceil (moment - n) (period_of system (group_at groups place))) offset
      ∙ ap (λ n. div_ceil (moment - beat.offset) n) period in
      let there = ceil_within (moment - beat.offset) beat.period job some in (
        λ after. omega (arith, number, there.0 (omega (arith, after))),
        λ le. omega (arith, there.1 (omega (arith, number, le))),
      )

  first_within : 0 < length groups
  first_within = omega (arith, of.as_many, of.are_beats.some)

  last_within : length groups - 1 < length groups
  last_within = omega (arith, first_within)

  last_from : (job moment : ℕ) → (moment ≤ read_at (last_beat beats) job) ↔ (first_arrival_from system (last_group groups) moment ≤ job)
  last_from job moment =
      let there = reads_from (length groups - 1) job moment last_within in
      let same : read_at (beat_in beats (length groups - 1)) job ≡ read_at (last_beat beats) job =
      ap (λ n. read_at (beat_in beats n) job) (omega (arith, of.as_many)) in (
        λ after. there.0 (omega (arith, after, same)),
        λ le. omega (arith, there.1 le, same),
      )

  forward_from : (chain : JobChain) → IsForwardChain (ideal_moments system) groups chain
      → (IsSteadyForward system groups chain) ↔ (first_steady_job system groups ≤ first_job chain)
  forward_from chain is =
      let begun = begun_from system groups (read_at (beat_in beats 0) (first_job chain)) in
      let there = reads_from 0 (first_job chain) (all_begun system groups) first_within in (
        λ steady. there.0 (omega (
          arith,
          (begun_from system groups steady.read).0 steady.steady,
          reads_is system groups beats of 0 (first_job chain) steady.read first_within steady.reads,
        )),
        λ le. record {
          is_chain = is;
          read = read_at (beat_in beats 0) (first_job chain);
          reads = reads_at system groups beats of 0 (first_job chain) first_within;
          steady = begun.1 (there.1 le);
        },
      )

  age_from : (chain : JobChain) → IsAgeChain (ideal_moments system) groups chain
      → (IsSteadyAge system groups chain) ↔ (last_steady_job system groups ≤ last_job chain)
  age_from chain is =
      let there = last_from (last_job chain) (start_up system groups) in (
        λ steady. there.0 (omega (arith, steady.steady, last_reads_is system groups beats of (last_job chain) steady.read steady.reads)),
        λ le. record {
          is_chain = is;
          read = read_at (last_beat beats) (last_job chain);
          reads = last_reads system groups beats of (last_job chain);
          steady = there.1 le;
        },
      )

  reduced_from : (chain : JobChain) → IsReducedChain (ideal_moments system) groups chain
      → (IsSteadyReduced system groups chain) ↔ (last_steady_job system groups ≤ last_job chain)
  reduced_from chain is =
      let there = last_from (last_job chain) (start_up system groups) in (
        λ steady. there.0 (omega (arith, steady.steady, last_reads_is system groups beats of (last_job chain) steady.read steady.reads)),
        λ le. record {
          is_chain = is;
          read = read_at (last_beat beats) (last_job chain);
          reads = last_reads system groups beats of (last_job chain);
          steady = there.1 le;
        },
      )

-- ---- chains of valid models

module _ (model : SystemModel) (valid : IsValid model) (chain : ℕ) (within : chain < length model.chains)
    (timed : is_timed_periodic_chain model chain ≡ true) where
  beats_of_chain : (beats : List Beat) × AreBeatsOf (system_of model) (groups_at model chain) beats
  beats_of_chain = has_beats model valid (groups_at model chain) (timed_chain model valid chain within timed)

  pub forward_steady : (jobs : JobChain) → IsForwardChain (ideal_moments (system_of model)) (groups_at model chain) jobs
      → (IsSteadyForward (system_of model) (groups_at model chain) jobs)
      ↔ (first_steady_job (system_of model) (groups_at model chain) ≤ first_job jobs)
  forward_steady = forward_from (system_of model) (groups_at model chain) beats_of_chain.0 beats_of_chain.1

  pub age_steady : (jobs : JobChain) → IsAgeChain (ideal_moments (system_of model)) (groups_at model chain) jobs
      → (IsSteadyAge (system_of model) (groups_at model chain) jobs)
      ↔ (last_steady_job (system_of model) (groups_at model chain) ≤ last_job jobs)
  age_steady = age_from (system_of model) (groups_at model chain) beats_of_chain.0 beats_of_chain.1

  pub reduced_steady : (jobs : JobChain) → IsReducedChain (ideal_moments (system_of model)) (groups_at model chain) jobs
      → (IsSteadyReduced (system_of model) (groups_at model chain) jobs)
      ↔ (last_steady_job (system_of model) (groups_at model chain) ≤ last_job jobs)
  reduced_steady = reduced_from (system_of model) (groups_at model chain) beats_of_chain.0 beats_of_chain.1
