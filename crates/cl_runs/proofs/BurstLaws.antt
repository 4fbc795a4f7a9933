-- What the jobs of bursts look like: job q * count + r arrives r distances after the first of burst q.
use Rattle.std.proofs.Common.{◌≡◌, ℕ, suc, ◌+◌, ◌*◌, ◌/◌, ◌%◌, ◌<◌, ◌≤◌, inl, inr, List, length, sym, ap, subst, arith}
use Rattle.std.proofs.lemmas.Bool.{cases_lt}
use Rattle.std.proofs.lemmas.Nat.{div-add-mod'}
use Rattle.cl_model.specs.declared.stimulus.StimulusKind.{StimulusKind, TheVariants.Burst}
use Rattle.cl_runs.specs.{declared.job.Job.Job, Pattern.{IsPattern, burst_gap}, Arrivals.{IsArrival, FollowPattern}, Table.job_at, ArrivalsByKind.FollowsBursts}
use Rattle.cl_runs.proofs.{ArrivalFacts.arrivals_rise, BurstPlaces.{place_in, position_of, position_place, position_gap}, ExactArrivals.{moved, job_moved, exact_each, exact_end, exact_back}}

module _ (ticks period offset count distance : ℕ) (well : IsPattern (Burst period offset count distance)) where
  abbrev pattern : StimulusKind
  pattern = Burst period offset count distance

  abbrev place : (q r : ℕ) → ℕ
  place = place_in period offset distance

  abbrev position : ℕ → ℕ
  position = position_of period offset count distance

  position_is : (k q r : ℕ) → k ≡ q * count + r → r < count → position k ≡ place q r
  position_is = position_place period offset count distance

  burst_and_rest : (k : ℕ) → k / count * count + k % count ≡ k
  burst_and_rest k = div-add-mod' k count

  rest_within : (k : ℕ) → k % count < count
  rest_within k = omega (arith, well.0)

  moves : (k : ℕ) → position k + burst_gap period count distance k ≡ position (suc k)
  moves = position_gap period offset count distance well

  begins : offset ≡ position 0
  begins = omega (arith, position_is 0 0 0 (omega arith) well.0)

  pub pattern_bursts : (jobs : List Job) → FollowPattern (Burst period offset count distance) ticks jobs
      → FollowsBursts ticks period offset count distance jobs
  pattern_bursts jobs follow =
      let from = moved pattern ticks jobs 0 _ _ (position 0) (position 0) begins begins follow in
      record {
        each = λ q r within h.
            let here : position (0 + (q * count + r)) ≡ place q r = position_is _ q r (omega arith) within in
            job_moved pattern ticks _ _ _ _ (job_at jobs (q * count + r)) here here
            (exact_each pattern ticks position moves moves jobs 0 from (q * count + r) h);
        end = λ q r within all.
            let here : position (0 + length jobs) ≡ place q r = position_is _ q r (omega (arith, all)) within in
            omega (arith, here, exact_end pattern ticks position moves moves jobs 0 from);
      }

  -- so jobs as far apart as a burst has jobs arrive a period apart
  position_later : (k : ℕ) → position (k + count) ≡ position k + period
  position_later k =
      let whole : suc (k / count) * count ≡ k / count * count + count = omega arith in
      let later : k + count ≡ suc (k / count) * count + k % count = omega (arith, burst_and_rest k, whole) in
      omega (arith, position_is (k + count) (suc (k / count)) (k % count) later (rest_within k))

  pub bursts_apart : (jobs : List Job) → FollowPattern (Burst period offset count distance) ticks jobs
      → (m n : ℕ) → m + count ≤ n → n < length jobs → (job_at jobs m).arrival + period ≤ (job_at jobs n).arrival
  bursts_apart jobs follow m n h below =
      let from = moved pattern ticks jobs 0 _ _ (position 0) (position 0) begins begins follow in
      let at = λ (k : ℕ) (lt : k < length jobs). exact_each pattern ticks position moves moves jobs 0 from k lt in
      let first : position (0 + m) ≡ position m = ap position (omega arith) in
      let last : position (0 + (m + count)) ≡ position (m + count) = ap position (omega arith) in
      let early : m < length jobs = omega (arith, h, below) in
      let later : m + count < length jobs = omega (arith, h, below) in
      omega (
        arith,
        (at m early).not_late,
        (at (m + count) later).not_early,
        first,
        last,
        position_later m,
        rises (m + count) n h below,
      )
    where
      rises : (k l : ℕ) → k ≤ l → l < length jobs → (job_at jobs k).arrival ≤ (job_at jobs l).arrival
      rises k l le lt = elim (cases_lt k l) [
        | inl less ↦ omega (arith, arrivals_rise pattern well ticks jobs follow k l less lt)
        | inr same ↦ let one : k ≡ l = omega arith in omega (arith, ap (λ i. (job_at jobs i).arrival) one)
      ]

  job_of_burst : (jobs : List Job) → FollowsBursts ticks period offset count distance jobs → (n : ℕ) → n < length jobs
      → IsArrival (Burst period offset count distance) ticks (position n) (position n) (job_at jobs n)
  job_of_burst jobs follows n h =
      subst (λ k. IsArrival (Burst period offset count distance) ticks (position n) (position n) (job_at jobs k)) (burst_and_rest n)
      (follows.each (n / count) (n % count) (rest_within n) (omega (arith, burst_and_rest n, h)))

  pub bursts_pattern : (jobs : List Job) → FollowsBursts ticks period offset count distance jobs
      → FollowPattern (Burst period offset count distance) ticks jobs
  bursts_pattern jobs follows = moved pattern ticks jobs 0 (position 0) (position 0) _ _ (sym begins) (sym begins)
      (exact_back pattern ticks position moves moves jobs 0
      (λ n h.
      let same : position n ≡ position (0 + n) = ap position (omega arith) in
      job_moved pattern ticks _ _ _ _ (job_at jobs n) same same (job_of_burst jobs follows n h))
      (
      let all : length jobs ≡ 0 + length jobs = omega arith in
      omega (
        arith,
        follows.end (length jobs / count) (length jobs % count) (rest_within (length jobs)) (burst_and_rest (length jobs)),
        ap position all,
      )
      ))
