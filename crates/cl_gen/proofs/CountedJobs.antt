-- A list of jobs that follows a pattern has at most as many jobs as are counted.
use Rattle.std.proofs.Common.{◌≡◌, ℕ, zero, suc, ◌+◌, ◌-◌, ◌*◌, ◌/◌, ◌%◌, ◌<◌, ◌≤◌, inl, inr, List, length, refl, arith}
use Rattle.std.specs.Int.{div_ceil}
use Rattle.std.proofs.Math.Nat.{mul-le-mul_right}
use Rattle.std.proofs.lemmas.Bool.{cases_lt}
use Rattle.std.proofs.lemmas.Grind.{div_ceil_times}
use Rattle.std.proofs.lemmas.Nat.{div-add-mod', mod_below}
use Rattle.cl_model.specs.declared.stimulus.StimulusKind.{StimulusKind, TheVariants.{Periodic, Sporadic, Burst}}
use Rattle.cl_runs.specs.{declared.job.Job.Job, Pattern.IsPattern, Arrivals.FollowPattern, ArrivalsByKind.{FollowsPeriod, FollowsGaps, FollowsBursts}, Table.job_at}
use Rattle.cl_runs.proofs.{PatternLaws.{pattern_period, pattern_gaps}, BurstLaws.pattern_bursts, BurstPlaces.{position_of, position_rises}}
use Rattle.cl_gen.specs.{Arrivals.arrivals_below, Count.arrival_count}
use Rattle.cl_gen.proofs.RisingArrivals.{end_reached}

-- where n is less than a width divided up, its product is less than the width
counted : (n width step : ℕ) → 0 < step → n * step < width → n < div_ceil width step
counted n width step some below = elim (cases_lt n (div_ceil width step)) [
  | inl less ↦ less
  | inr not ↦
      let fits : div_ceil width step * step ≤ n * step = mul-le-mul_right step not in
      absurd (omega (arith, below, fits, (div_ceil_times width step some).0))
]

periodic_counted : (ticks period offset jitter : ℕ) → 1 ≤ period → (jobs : List Job) → FollowsPeriod ticks period offset jitter jobs
    → (n : ℕ) → length jobs ≡ n → n ≤ div_ceil (ticks - offset) period
periodic_counted ticks period offset jitter some jobs follows zero is = omega arith
periodic_counted ticks period offset jitter some jobs follows (suc n) is =
    let last = follows.each n (omega (arith, is)) in
    counted n (ticks - offset) period some (omega (arith, last.not_early, last.arrives))

sporadic_late : (ticks least greatest : ℕ) (jobs : List Job) → FollowsGaps ticks least greatest jobs
    → (k : ℕ) → k < length jobs → k * least ≤ (job_at jobs k).arrival
sporadic_late ticks least greatest jobs follows zero is = omega arith
sporadic_late ticks least greatest jobs follows (suc k) is =
    let next : suc k * least ≡ k * least + least = omega arith in
    omega (arith, next, sporadic_late ticks least greatest jobs follows k (omega arith), (follows.next k is).not_early)

sporadic_arrives : (ticks least greatest : ℕ) (jobs : List Job) → FollowsGaps ticks least greatest jobs
    → (k : ℕ) → k < length jobs → (job_at jobs k).arrival < ticks
sporadic_arrives ticks least greatest jobs follows zero is = (follows.first (omega (arith, is))).arrives
sporadic_arrives ticks least greatest jobs follows (suc k) is = (follows.next k is).arrives

sporadic_counted : (ticks least greatest : ℕ) → 1 ≤ least → (jobs : List Job) → FollowsGaps ticks least greatest jobs
    → (n : ℕ) → length jobs ≡ n → n ≤ div_ceil ticks least
sporadic_counted ticks least greatest some jobs follows zero is = omega arith
sporadic_counted ticks least greatest some jobs follows (suc n) is = counted n ticks least some (omega (
  arith,
  sporadic_late ticks least greatest jobs follows n (omega (arith, is)),
  sporadic_arrives ticks least greatest jobs follows n (omega (arith, is)),
))

module _ (ticks period offset count distance : ℕ) (well : IsPattern (Burst period offset count distance)) where
  burst_arrives : (jobs : List Job) → FollowsBursts ticks period offset count distance jobs
      → (k : ℕ) → k < length jobs → position_of period offset count distance k < ticks
  burst_arrives jobs follows k is =
      let parts : k / count * count + k % count ≡ k = div-add-mod' k count in
      let job = follows.each (k / count) (k % count) (mod_below k count (omega (arith, well.0))) (omega (arith, parts, is)) in
      omega (arith, job.not_early, job.arrives)

  burst_counted : (jobs : List Job) → FollowsBursts ticks period offset count distance jobs
      → length jobs ≤ arrivals_below (position_of period offset count distance) ticks
  burst_counted jobs follows = elim (cases_lt (arrivals_below (position_of period offset count distance) ticks) (length jobs)) [
    | inl less ↦ absurd (omega (
      arith,
      burst_arrives jobs follows _ less,
      end_reached (position_of period offset count distance) (position_rises period offset count distance well) ticks,
    ))
    | inr enough ↦ enough
  ]

-- jobs that follow a pattern are at most as many as are counted
pub jobs_counted : (pattern : StimulusKind) → IsPattern pattern → (ticks : ℕ) (jobs : List Job) → FollowPattern pattern ticks jobs
    → length jobs ≤ arrival_count pattern ticks
unfolding arrival_count
jobs_counted (Periodic period offset jitter) well ticks jobs follow =
    periodic_counted ticks period offset jitter well jobs (pattern_period ticks period offset jitter jobs follow) (length jobs) refl
jobs_counted (Sporadic least greatest) well ticks jobs follow =
    sporadic_counted ticks least greatest well.0 jobs (pattern_gaps ticks least greatest jobs follow) (length jobs) refl
jobs_counted (Burst period offset count distance) well ticks jobs follow =
    burst_counted ticks period offset count distance well jobs (pattern_bursts ticks period offset count distance well jobs follow)
