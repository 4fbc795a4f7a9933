-- How many jobs that follow a pattern a window of ticks can release.
use Rattle.std.proofs.Common.{◌≡◌, ℕ, zero, suc, ◌+◌, ◌*◌, ◌/◌, ◌%◌, ◌<◌, ◌≤◌, inl, inr, min, List, ap, arith}
use Rattle.std.specs.Int.{div_ceil}
use Rattle.std.proofs.lemmas.Bool.{cases_lt, cases_eq}
use Rattle.std.proofs.lemmas.Grind.{div_ceil_times}
use Rattle.std.proofs.lemmas.Nat.{le-div, div-add-mod'}
use Rattle.std.proofs.Math.Nat.{mul-le-mul_right, div-zero, mod-zero, div-mul-le_self}
use Rattle.cl_model.specs.{declared.stimulus.StimulusKind.{StimulusKind, TheVariants.{Periodic, Sporadic, Burst}}, Timing.{least_distance, greatest_jitter}}
use Rattle.cl_runs.specs.{declared.job.Job.Job, Pattern.IsPattern, Arrivals.FollowPattern, Table.job_at}
use Rattle.cl_runs.proofs.{ArrivalFacts.{arrivals_apart, released_late, released_within}, PatternFacts.distance_positive, BurstLaws.bursts_apart}
use Rattle.cl_runs.proofs.ModelSystem as model_system
use Rattle.cl_stim.specs.{Stimulus.IsStimulus, Jobs.AreReleased, Releases.{releases_in, most_releases}, Inner.Windows.{AreApart, few_in, window_split}}

-- the pattern of a valid model's stimulus is well formed
pub well_formed : (kind : StimulusKind) → IsStimulus kind → IsPattern kind
well_formed kind known = model_system.well_formed kind known.0 known.1

-- ---- rounding up

-- a number whose product doesn't reach the next multiple is within the quotient, rounded up
within_ceil : (n d count : ℕ) → 1 ≤ d → count * d < n + d → count ≤ div_ceil n d
within_ceil n d count some small = elim (cases_lt (div_ceil n d) count) [
  | inr le ↦ le
  | inl more ↦
      let grows : suc (div_ceil n d) * d ≤ count * d = mul-le-mul_right d (omega (arith, more)) in
      absurd (omega (arith, small, grows, (div_ceil_times n d some).0))
]

-- the quotient, rounded up, never falls
ceil_rises : (m n d : ℕ) → m ≤ n → div_ceil m d ≤ div_ceil n d
ceil_rises m n zero le = omega (arith, le, div-zero m, div-zero n, mod-zero m, mod-zero n)
ceil_rises m n (suc d) le =
    let some : 1 ≤ suc d = omega arith in
    within_ceil n (suc d) (div_ceil m (suc d)) some (omega (arith, le, (div_ceil_times m (suc d) some).1))

-- nor does the quotient itself
quotient_rises : (m n d : ℕ) → m ≤ n → m / d ≤ n / d
quotient_rises m n zero le = omega (arith, div-zero m, div-zero n)
quotient_rises m n (suc d) le = le-div (m / suc d) n (suc d) (omega arith) (omega (arith, le, div-mul-le_self m (suc d)))

-- ---- the most releases never fall

burst_rises : (narrow wide period count distance : ℕ) → narrow ≤ wide
    → narrow / period * count + min count (div_ceil (narrow % period) distance)
    ≤ wide / period * count + min count (div_ceil (wide % period) distance)
burst_rises narrow wide period count distance le = elim (cases_eq (narrow / period) (wide / period)) [
  | inl same ↦
      let rest : narrow % period ≤ wide % period = omega (arith, le, div-add-mod' narrow period, div-add-mod' wide period, ap (λ n. n * period) same) in
      omega (arith, ceil_rises (narrow % period) (wide % period) distance rest, ap (λ n. n * count) same)
  | inr other ↦
      let less : suc (narrow / period) ≤ wide / period = omega (arith, quotient_rises narrow wide period le, other) in
      let times : suc (narrow / period) * count ≤ wide / period * count = mul-le-mul_right count less in
      omega (arith, times)
]

pub most_rises : (kind : StimulusKind) (narrow wide : ℕ) → narrow ≤ wide → most_releases kind narrow ≤ most_releases kind wide
unfolding most_releases
most_rises (Periodic period offset jitter) narrow wide le = ceil_rises _ _ period (omega (arith, le))
most_rises (Sporadic least greatest) narrow wide le = ceil_rises _ _ least le
most_rises (Burst period offset count distance) narrow wide le = burst_rises narrow wide period count distance le

-- ---- they are the most

module _ (kind : StimulusKind) (well : IsPattern kind) (ticks : ℕ) (jobs : List Job) (follow : FollowPattern kind ticks jobs) where
  in_order : AreApart 0 0 jobs
  in_order m n h below = elim (cases_lt m n) [
    | inl earlier ↦ omega (arith, arrivals_apart kind well ticks jobs follow m n earlier below)
    | inr last ↦ let same : m ≡ n = omega arith in omega (arith, ap (λ k. (job_at jobs k).arrival) same)
  ]

  next_apart : AreApart 1 (least_distance kind) jobs
  next_apart m n h below = arrivals_apart kind well ticks jobs follow m n (omega arith) below

  released : AreReleased (greatest_jitter kind) jobs
  released = record { not_early = released_late kind ticks jobs follow; not_late = released_within kind ticks jobs follow }

  -- as many as the least distance fits into the window with the jitter, rounded up
  few_by_distance : (start width with_jitter : ℕ) → width + greatest_jitter kind ≤ with_jitter
      → releases_in jobs start width ≤ div_ceil with_jitter (least_distance kind)
  few_by_distance start width with_jitter fits = omega (
    arith,
    few_in 1 (least_distance kind) (greatest_jitter kind) jobs in_order next_apart released start width
        (div_ceil with_jitter (least_distance kind))
        (omega (arith, fits, (div_ceil_times with_jitter (least_distance kind) (distance_positive kind well)).0)),
  )

module _ (period offset count distance : ℕ) (well : IsPattern (Burst period offset count distance)) (ticks : ℕ) (jobs : List Job)
    (follow : FollowPattern (Burst period offset count distance) ticks jobs) where
  abbrev kind : StimulusKind
  kind = Burst period offset count distance

  -- as many as whole bursts fit into the window
  few_by_bursts : (start width times : ℕ) → width ≤ times * period → releases_in jobs start width ≤ times * count
  few_by_bursts start width times fits = few_in count period 0 jobs (in_order kind well ticks jobs follow)
      (bursts_apart ticks period offset count distance well jobs follow) (released kind well ticks jobs follow) start width times (omega (arith, fits))

  rest_below : (width : ℕ) → width % period ≤ 1 * period
  rest_below width =
      let some : 1 * distance ≤ count * distance = mul-le-mul_right distance well.0 in
      let period_positive : 1 ≤ period = omega (arith, some, well.1, well.2) in
      omega arith

  few_of_bursts : (start width : ℕ) → releases_in jobs start width ≤ width / period * count + min count (div_ceil (width % period) distance)
  few_of_bursts start width =
      let parts : width / period * period + width % period ≡ width = div-add-mod' width period in
      let few : releases_in jobs (start + width / period * period) (width % period) ≤ div_ceil (width % period) distance
      = few_by_distance kind well ticks jobs follow (start + width / period * period) (width % period) (width % period) (omega arith) in
      omega (
        arith,
        few,
        ap (releases_in jobs start) parts,
        window_split jobs start (width / period * period) (width % period),
        few_by_bursts start (width / period * period) (width / period) (omega arith),
        few_by_bursts (start + width / period * period) (width % period) 1 (rest_below width),
      )

-- at most so many jobs are released in any window
pub few_releases : (kind : StimulusKind) → IsPattern kind → (ticks : ℕ) (jobs : List Job) → FollowPattern kind ticks jobs
    → (start width : ℕ) → releases_in jobs start width ≤ most_releases kind width
unfolding most_releases
few_releases (Periodic period offset jitter) well ticks jobs follow start width =
    few_by_distance (Periodic period offset jitter) well ticks jobs follow start width (width + jitter) (omega arith)
few_releases (Sporadic least greatest) well ticks jobs follow start width =
    few_by_distance (Sporadic least greatest) well ticks jobs follow start width width (omega arith)
few_releases (Burst period offset count distance) well ticks jobs follow start width =
    few_of_bursts period offset count distance well ticks jobs follow start width
