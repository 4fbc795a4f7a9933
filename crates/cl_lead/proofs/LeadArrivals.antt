-- A periodic task whose first job arrives before its period ends has a job for each arrival of its
-- phase at moment 0 or later, so its jobs that arrive in a window are no fewer than those arrivals,
-- and nor are those that are released there.
use Rattle.std.proofs.Common.{◌≡◌, ℕ, zero, suc, ◌+◌, ◌-◌, ◌*◌, ◌<◌, ◌≤◌, inl, inr, true, ◌&&◌, cond, nat_le, nat_lt, List, [], ◌∷◌, length, ℤ, pos, negsuc, ◌+ℤ◌, ◌*ℤ◌, refl, ap, arith}
use Rattle.std.proofs.Math.Nat.{mul-le-mul_right}
use Rattle.std.proofs.lemmas.Int.{ints}
use Rattle.std.proofs.lemmas.Bool.{cases_Bool, cases_lt}
use Rattle.std.proofs.lemmas.Bool.Decides.{nat_tests}
use Rattle.std.proofs.lemmas.List.Sums.{sum_by-cons}
use Rattle.cl_runs.specs.{declared.job.Job.Job, Table.job_at, ArrivalsByKind.FollowsPeriod}
use Rattle.cl_stim.specs.{Phase.{IsPhase, IsArrivalOf, arrives_at}, Releases.releases_in}
use Rattle.cl_stim.proofs.ArrivalTests.{arrives_from_test}
use Rattle.cl_cycle.specs.Counts.{arrivals_from}
use Rattle.cl_cycle.proofs.CountedTicks.{one_if, none_in_none, longer}
use Rattle.cl_lead.specs.Leads.{each_period}

-- ---- jobs that arrive in a window

-- whether a moment lies in a window, as a number
inside : (from width moment : ℕ) → ℕ
inside from width moment = cond (nat_le from moment && nat_lt moment (from + width)) 1 0

inside_wider : (from width moment : ℕ) → inside from width moment ≤ inside from (suc width) moment
unfolding inside
inside_wider from width moment = grind (arith, nat_tests)

inside_new : (from width moment : ℕ) → moment ≡ from + width → suc (inside from width moment) ≤ inside from (suc width) moment
unfolding inside
inside_new from width moment is = grind (arith, nat_tests, is)

inside_later : (from width jitter arrival release : ℕ) → arrival ≤ release → release ≤ arrival + jitter
    → inside from width arrival ≤ cond (nat_le from release && nat_lt release (from + (width + jitter))) 1 0
unfolding inside
inside_later from width jitter arrival release late within = grind (arith, nat_tests, late, within)

-- how many jobs arrive in it
arrived_in : List Job → (from width : ℕ) → ℕ
arrived_in [] from width = 0
arrived_in (job ∷ jobs) from width = inside from width job.arrival + arrived_in jobs from width

arrived_wider : (jobs : List Job) (from width : ℕ) → arrived_in jobs from width ≤ arrived_in jobs from (suc width)
unfolding arrived_in
arrived_wider [] from width = omega arith
arrived_wider (job ∷ jobs) from width = omega (arith, inside_wider from width job.arrival, arrived_wider jobs from width)

-- a job that arrives as it ends is one more of a wider one
arrived_new : (jobs : List Job) (from width k : ℕ) → k < length jobs → (job_at jobs k).arrival ≡ from + width
    → suc (arrived_in jobs from width) ≤ arrived_in jobs from (suc width)
unfolding arrived_in
arrived_new [] from width k h is = absurd (omega (arith, h))
arrived_new (job ∷ jobs) from width zero h is = omega (arith, inside_new from width job.arrival is, arrived_wider jobs from width)
arrived_new (job ∷ jobs) from width (suc k) h is =
    omega (arith, inside_wider from width job.arrival, arrived_new jobs from width k (omega (arith, h)) is)

none_released : (from width : ℕ) → releases_in [] from width ≡ 0
unfolding releases_in
none_released from width = refl

released_first : (job : Job) (jobs : List Job) (from width : ℕ)
    → releases_in (job ∷ jobs) from width ≡ cond (nat_le from job.release && nat_lt job.release (from + width)) 1 0 + releases_in jobs from width
unfolding releases_in
released_first job jobs from width = sum_by-cons (λ (j : Job). one_if (nat_le from j.release && nat_lt j.release (from + width))) job jobs

-- those that arrive in it are released in it or at most the jitter later
released_of_arrived : (jobs : List Job) (from width jitter : ℕ)
    → ((k : ℕ) → k < length jobs → (job_at jobs k).arrival ≤ (job_at jobs k).release)
    → ((k : ℕ) → k < length jobs → (job_at jobs k).release ≤ (job_at jobs k).arrival + jitter)
    → arrived_in jobs from width ≤ releases_in jobs from (width + jitter)
unfolding arrived_in
released_of_arrived [] from width jitter late within = omega (arith, none_released from (width + jitter))
released_of_arrived (job ∷ jobs) from width jitter late within = omega (
  arith,
  released_first job jobs from (width + jitter),
  inside_later from width jitter job.arrival job.release (late 0 (omega arith)) (within 0 (omega arith)),
  released_of_arrived jobs from width jitter (λ k h. late (suc k) (omega (arith, h))) (λ k h. within (suc k) (omega (arith, h))),
)

-- ---- the job of an arrival

-- which job it is
record IsNumbered (period offset moment : ℕ) : Type 0 where
  number : ℕ
  arrives : moment ≡ offset + number * period

module _ (period offset : ℕ) (some : 1 ≤ period) (early : offset < period) where
  -- an arrival at moment 0 or later isn't one of a period before the first
  in_turn : (moment place : ℕ) (turn : ℤ) → place < 1 → pos moment ≡ ((pos offset +ℤ (turn *ℤ pos period)) +ℤ pos (place * period))
      → IsNumbered period offset moment
  in_turn moment zero (pos number) first arrives = record { number = number; arrives = omega (arith, ints, arrives) }
  in_turn moment zero (negsuc ago) first arrives =
      let more : suc ago * period ≡ ago * period + period = omega arith in
      absurd (omega (arith, ints, arrives, early, more))
  in_turn moment (suc place) turn first arrives = absurd (omega (arith, first))

  phase_is_whole : IsPhase (each_period period offset)
  phase_is_whole = record { some = omega arith; apart = some; fits = omega arith }

  numbered : (moment : ℕ) → arrives_at (each_period period offset) (pos moment) ≡ true → IsNumbered period offset moment
  numbered moment passes =
      let arrival : IsArrivalOf (each_period period offset) (pos moment)
      = arrives_from_test (each_period period offset) phase_is_whole (pos moment) passes in
      in_turn moment arrival.place arrival.turn arrival.within arrival.arrives

  module _ (ticks jitter : ℕ) (jobs : List Job) (follows : FollowsPeriod ticks period offset jitter jobs) where
    -- it is in the table where it arrives in the run
    in_table : (moment : ℕ) → moment < ticks → (is : IsNumbered period offset moment) → is.number < length jobs
    in_table moment below is = elim (cases_lt is.number (length jobs)) [
      | inl within ↦ within
      | inr past ↦ absurd (omega (arith, below, is.arrives, follows.end, mul-le-mul_right period past))
    ]

    arrives_there : (moment : ℕ) → moment < ticks → (is : IsNumbered period offset moment) → (job_at jobs is.number).arrival ≡ moment
    arrives_there moment below is =
        let each = follows.each is.number (in_table moment below is) in
        omega (arith, is.arrives, each.not_early, each.not_late)

    same_moment : (from width : ℕ) → (pos from +ℤ pos width) ≡ pos (from + width)
    same_moment from width = omega (arith, ints)

    -- no fewer jobs arrive in a window than the phase has arrivals there
    arrived_all : (from width : ℕ) → from + width ≤ ticks
        → arrivals_from (each_period period offset) (pos from) width ≤ arrived_in jobs from width
    arrived_all from zero h = omega (arith, none_in_none (each_period period offset) (pos from))
    arrived_all from (suc width) h =
        let more : suc width ≡ width + 1 = omega arith in
        let step = longer (each_period period offset) (pos from) width in
        let fewer = arrived_all from width (omega (arith, h)) in
        let same : arrives_at (each_period period offset) (pos from +ℤ pos width) ≡ arrives_at (each_period period offset) (pos (from + width))
        = ap (arrives_at (each_period period offset)) (same_moment from width) in
        elim (cases_Bool (arrives_at (each_period period offset) (pos (from + width)))) [
          | inl arrives ↦
              let is = numbered (from + width) arrives in
              omega (
                arith,
                ap (arrivals_from (each_period period offset) (pos from)) more,
                step,
                fewer,
                ap one_if same,
                ap one_if arrives,
                arrived_new jobs from width is.number (in_table (from + width) (omega (arith, h)) is)
                    (arrives_there (from + width) (omega (arith, h)) is),
              )
          | inr none ↦ omega (
            arith,
            ap (arrivals_from (each_period period offset) (pos from)) more,
            step,
            fewer,
            ap one_if same,
            ap one_if none,
            arrived_wider jobs from width,
          )
        ]

    -- nor are released in one that is as much wider as the jitter
    pub released_all : (from width : ℕ) → from + suc width ≤ ticks
        → arrivals_from (each_period period offset) (pos from) (suc width - jitter) ≤ releases_in jobs from (suc width)
    released_all from width h = elim (cases_lt (suc width) jitter) [
      | inl less ↦
          let none : suc width - jitter ≡ 0 = omega (arith, less) in
          omega (arith, ap (arrivals_from (each_period period offset) (pos from)) none, none_in_none (each_period period offset) (pos from))
      | inr more ↦
          let whole : suc width - jitter + jitter ≡ suc width = omega (arith, more) in
          omega (
            arith,
            arrived_all from (suc width - jitter) (omega (arith, h)),
            released_of_arrived jobs from (suc width - jitter) jitter (λ k within. (follows.each k within).released)
                (λ k within. (follows.each k within).in_jitter),
            ap (releases_in jobs from) whole,
          )
    ]
