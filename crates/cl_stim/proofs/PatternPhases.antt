-- The phase of a pattern, where it has one.
use Rattle.std.proofs.Common.{◌≡◌, ℕ, ◌+◌, ◌-◌, ◌*◌, ◌<◌, Some, None, unwrap_or, List, length, refl, ap, subst, arith}
use Rattle.cl_model.specs.{declared.stimulus.StimulusKind.{StimulusKind, TheVariants.{Periodic, Sporadic, Burst}}, Timing.greatest_distance}
use Rattle.cl_runs.specs.{Pattern.IsPattern, Arrivals.FollowPattern, declared.job.Job.Job, Table.job_at}
use Rattle.cl_runs.proofs.{PatternLaws.pattern_period, BurstLaws.pattern_bursts}
use Rattle.cl_stim.specs.{declared.phase.Phase.Phase, Phase.{phase_of, IsPhase}}

-- what holds of the phase of a pattern, from each kind of pattern that has one
by_kind : (P : StimulusKind → Phase → Type 0)
    → ((period offset jitter : ℕ) → P (Periodic period offset jitter) (record { period = period; offset = offset; count = 1; distance = period }))
    → ((period offset count distance : ℕ) → P (Burst period offset count distance) (record { period = period; offset = offset; count = count; distance = distance }))
    → (pattern : StimulusKind) (phase : Phase) → phase_of pattern ≡ Some phase → P pattern phase
by_kind P periodic burst (Periodic period offset jitter) phase is =
    subst (P (Periodic period offset jitter)) (ap (λ o. unwrap_or o phase) is) (periodic period offset jitter)
by_kind P periodic burst (Sporadic least greatest) phase is = absurd (none_some phase is)
  where
    none_some : (phase : Phase) → None ≡ Some phase → ⊥
    none_some phase is = grind (arith)
by_kind P periodic burst (Burst period offset count distance) phase is =
    subst (P (Burst period offset count distance)) (ap (λ o. unwrap_or o phase) is) (burst period offset count distance)

-- the phase of a well-formed pattern comes round
pub phase_is : (pattern : StimulusKind) (phase : Phase) → phase_of pattern ≡ Some phase → IsPattern pattern → IsPhase phase
phase_is = by_kind (λ pattern phase. IsPattern pattern → IsPhase phase)
    (λ period offset jitter well. record { some = omega arith; apart = well; fits = omega arith })
    (λ period offset count distance well. record { some = well.0; apart = well.1; fits = well.2 })

-- its greatest distance is that of the pattern
pub phase_distance : (pattern : StimulusKind) (phase : Phase) → phase_of pattern ≡ Some phase
    → phase.period - (phase.count - 1) * phase.distance ≡ greatest_distance pattern
phase_distance = by_kind (λ pattern phase. phase.period - (phase.count - 1) * phase.distance ≡ greatest_distance pattern)
    (λ period offset jitter. omega arith)
    (λ period offset count distance. refl)

-- jobs that follow a pattern with a phase arrive at its places
pub job_arrives : (pattern : StimulusKind) (phase : Phase) → phase_of pattern ≡ Some phase
    → IsPattern pattern → (ticks : ℕ) (jobs : List Job) → FollowPattern pattern ticks jobs
    → (turn place : ℕ) → place < phase.count → turn * phase.count + place < length jobs
    → (job_at jobs (turn * phase.count + place)).arrival ≡ phase.offset + turn * phase.period + place * phase.distance
job_arrives = by_kind
    (λ pattern phase. IsPattern pattern → (ticks : ℕ) (jobs : List Job) → FollowPattern pattern ticks jobs
    → (turn place : ℕ) → place < phase.count → turn * phase.count + place < length jobs
    → (job_at jobs (turn * phase.count + place)).arrival ≡ phase.offset + turn * phase.period + place * phase.distance)
    (λ period offset jitter well ticks jobs follow turn place within inside.
    let index : turn ≡ turn * 1 + place = omega (arith, within) in
    let first : place ≡ 0 = omega (arith, within) in
    let arrival = (pattern_period ticks period offset jitter jobs follow).each turn (omega (arith, index, inside)) in
    omega (arith, arrival.not_early, arrival.not_late, ap (λ n. (job_at jobs n).arrival) index, ap (λ n. n * period) first))
    (λ period offset count distance well ticks jobs follow turn place within inside.
    let arrival = (pattern_bursts ticks period offset count distance well jobs follow).each turn place within inside in
    omega (arith, arrival.not_early, arrival.not_late))
