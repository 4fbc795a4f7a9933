-- The jobs of a legal run that are released in a window arrive in it, or at most the jitter before
-- it, each at an arrival of its own of the phase.
use Rattle.std.proofs.Common.{◌≡◌, ℕ, zero, suc, ◌+◌, ◌-◌, ◌<◌, ◌≤◌, inl, inr, ◌⊎◌, true, ◌&&◌, nat_le, nat_lt, List, [], ◌∷◌, length, ℤ, pos, ◌+ℤ◌, ◌-ℤ◌, Some, refl, ap, subst, arith}
use Rattle.std.proofs.lemmas.Int.{ints}
use Rattle.std.proofs.lemmas.Bool.{cases_Bool, cases_lt, and_parts, ltb-true, leb-true, cond-true, cond-false}
use Rattle.std.proofs.lemmas.List.Sums.{sum_by-cons}
use Rattle.cl_model.specs.Timing.{greatest_jitter}
use Rattle.cl_runs.specs.{TaskTiming.{System, timing_at, IsSound}, declared.job.Job.Job, Table.job_at, Run.{Run, jobs_of}, Legal.IsLegal}
use Rattle.cl_runs.proofs.RunArrivals.{arrivals_rise, released_late, released_within}
use Rattle.cl_stim.specs.{declared.phase.Phase.Phase, Phase.{IsPhase, IsArrivalOf, phase_of, arrives_at}, Releases.releases_in}
use Rattle.cl_stim.proofs.{ArrivalTests.test_from_arrival, PatternPhases.phase_is, RunPhases.run_arrives}
use Rattle.cl_cycle.specs.Counts.{arrivals_from}
use Rattle.cl_cycle.proofs.CountedTicks.{one_if, none_in_none, earlier}

-- ---- whether a job is counted

-- none of no jobs is released
none_released : (start width : ℕ) → releases_in [] start width ≡ 0
unfolding releases_in
none_released start width = refl

-- whether a job is released in the window, as a number
counts : (start width release : ℕ) → ℕ
counts start width release = one_if (nat_le start release && nat_lt release (start + width))

-- the first job, and those after it
released_first : (job : Job) (jobs : List Job) (start width : ℕ)
    → releases_in (job ∷ jobs) start width ≡ counts start width job.release + releases_in jobs start width
unfolding releases_in counts
released_first job jobs start width = sum_by-cons (λ (j : Job). one_if (nat_le start j.release && nat_lt j.release (start + width))) job jobs

-- a job that is released in the window counts as one, and any other as none
record IsCounted (start width release : ℕ) : Type 0 where
  from : start ≤ release
  below : release < start + width
  one : counts start width release ≡ 1

counted_or_not : (start width release : ℕ) → IsCounted start width release ⊎ (counts start width release ≡ 0)
unfolding counts
counted_or_not start width release = elim (cases_Bool (nat_le start release && nat_lt release (start + width))) [
  | inl inside ↦
      let parts = and_parts (nat_le start release) (nat_lt release (start + width)) inside in
      inl (record {
        from = leb-true start release parts.0;
        below = ltb-true release (start + width) parts.1;
        one = cond-true {A = ℕ} _ 1 0 inside;
      })
  | inr outside ↦ inr (cond-false {A = ℕ} _ 1 0 outside)
]

-- ---- the arrivals that are left of a window

module _ (phase : Phase) (base : ℤ) (all : ℕ) where
  -- how many jobs arrive in it after some ticks of it
  left : (passed : ℕ) → ℕ
  left passed = arrivals_from phase (base +ℤ pos passed) (all - passed)

  next_tick : (passed : ℕ) → ((base +ℤ pos passed) +ℤ pos 1) ≡ (base +ℤ pos (suc passed))
  next_tick passed = omega (arith, ints)

  -- those of the next tick, and those after it
  left_next : (passed : ℕ) → passed < all → left passed ≡ one_if (arrives_at phase (base +ℤ pos passed)) + left (suc passed)
  unfolding left
  left_next passed within =
      let more : all - passed ≡ all - suc passed + 1 = omega (arith, within) in
      omega (
        arith,
        ap (arrivals_from phase (base +ℤ pos passed)) more,
        earlier phase (base +ℤ pos passed) (all - suc passed),
        ap (λ z. arrivals_from phase z (all - suc passed)) (next_tick passed),
      )

  -- past the window none are left
  left_past : (passed : ℕ) → all ≤ passed → left passed ≡ left all
  unfolding left
  left_past passed past =
      let none : all - passed ≡ 0 = omega (arith, past) in
      let none_too : all - all ≡ 0 = omega arith in
      omega (
        arith,
        ap (arrivals_from phase (base +ℤ pos passed)) none,
        ap (arrivals_from phase (base +ℤ pos all)) none_too,
        none_in_none phase (base +ℤ pos passed),
        none_in_none phase (base +ℤ pos all),
      )

  -- a tick later no more are left, nor so many ticks later
  left_falls_once : (passed : ℕ) → left (suc passed) ≤ left passed
  left_falls_once passed = elim (cases_lt passed all) [
    | inl within ↦ omega (arith, left_next passed within)
    | inr past ↦ omega (arith, left_past passed past, left_past (suc passed) (omega (arith, past)))
  ]

  left_by_more : (passed more : ℕ) → left (passed + more) ≤ left passed
  left_by_more passed zero = let same : passed + 0 ≡ passed = omega arith in omega (arith, ap left same)
  left_by_more passed (suc more) =
      let next : passed + suc more ≡ suc (passed + more) = omega arith in
      omega (arith, ap left next, left_falls_once (passed + more), left_by_more passed more)

  -- at any later tick
  left_falls : (before after : ℕ) → before ≤ after → left after ≤ left before
  left_falls before after h =
      let rest : before + (after - before) ≡ after = omega (arith, h) in
      omega (arith, ap left rest, left_by_more before (after - before))

-- ---- jobs one after the other

-- jobs arrive at arrivals of the phase, from a moment on, each later than the one before it, and
-- are released within the jitter
record ArriveFrom (phase : Phase) (jitter : ℕ) (jobs : List Job) (from : ℕ) : Type 0 where
  arrive : (job : ℕ) → job < length jobs → IsArrivalOf phase (pos (job_at jobs job).arrival)
  late : (job : ℕ) → job < length jobs → (job_at jobs job).arrival ≤ (job_at jobs job).release
  within : (job : ℕ) → job < length jobs → (job_at jobs job).release ≤ (job_at jobs job).arrival + jitter
  rise : (job : ℕ) → suc job < length jobs → (job_at jobs job).arrival < (job_at jobs (suc job)).arrival
  first : 0 < length jobs → from ≤ (job_at jobs 0).arrival

-- those after the first
after_first : (phase : Phase) (jitter : ℕ) (job : Job) (jobs : List Job) (from : ℕ) → ArriveFrom phase jitter (job ∷ jobs) from
    → ArriveFrom phase jitter jobs (suc job.arrival)
after_first phase jitter job jobs from are = record {
  arrive = λ k h. are.arrive (suc k) (omega (arith, h));
  late = λ k h. are.late (suc k) (omega (arith, h));
  within = λ k h. are.within (suc k) (omega (arith, h));
  rise = λ k h. are.rise (suc k) (omega (arith, h));
  first = λ h. are.rise 0 (omega (arith, h));
}

module _ (phase : Phase) (is : IsPhase phase) (jitter start width : ℕ) where
  -- where the window with the jitter begins
  abbrev base : ℤ
  base = pos start -ℤ pos jitter

  -- how many arrive in the window with the jitter from a moment on
  abbrev left_from : (moment : ℕ) → ℕ
  left_from moment = left phase base (width + jitter) (moment + jitter - start)

  -- a moment is as many ticks after that
  moment_at : (moment : ℕ) → start ≤ moment + jitter → pos moment ≡ ((pos start -ℤ pos jitter) +ℤ pos (moment + jitter - start))
  moment_at moment h = omega (arith, ints, h)

  -- no more arrive from a later moment on
  falls : (before after : ℕ) → before ≤ after → left_from after ≤ left_from before
  falls before after h = left_falls phase base (width + jitter) (before + jitter - start) (after + jitter - start) (omega (arith, h))

  -- a job that is counted arrives there, and is one more than those that arrive after it
  arrival_left : (arrival release : ℕ) → IsArrivalOf phase (pos arrival) → arrival ≤ release → release ≤ arrival + jitter
      → start ≤ release → release < start + width → suc (left_from (suc arrival)) ≤ left_from arrival
  arrival_left arrival release arrives late within from below =
      let passed : ℕ = arrival + jitter - start in
      let next : suc arrival + jitter - start ≡ suc passed = omega (arith, from, within) in
      let found : arrives_at phase (base +ℤ pos passed) ≡ true =
      subst (λ z. arrives_at phase z ≡ true) (moment_at arrival (omega (arith, from, within))) (test_from_arrival phase is (pos arrival) arrives) in
      omega (
        arith,
        ap (left phase base (width + jitter)) next,
        left_next phase base (width + jitter) passed (omega (arith, late, from, within, below)),
        ap one_if found,
      )

  -- no more jobs are released in the window than arrive from the first one's arrival on
  few_left : (jobs : List Job) (from : ℕ) → ArriveFrom phase jitter jobs from → releases_in jobs start width ≤ left_from from
  few_left [] from are = omega (arith, none_released start width)
  few_left (job ∷ jobs) from are =
      let rest = few_left jobs (suc job.arrival) (after_first phase jitter job jobs from are) in
      let first = are.first (omega arith) in
      elim (counted_or_not start width job.release) [
        | inl counted ↦ omega (
          arith,
          released_first job jobs start width,
          counted.one,
          rest,
          arrival_left job.arrival job.release (are.arrive 0 (omega arith)) (are.late 0 (omega arith)) (are.within 0 (omega arith))
              counted.from counted.below,
          falls from job.arrival first,
        )
        | inr not ↦ omega (
          arith,
          released_first job jobs start width,
          not,
          rest,
          falls from (suc job.arrival) (omega (arith, first)),
        )
      ]

  no_later : (base +ℤ pos 0) ≡ base
  no_later = omega (arith, ints)

  -- nor than arrive in the whole window with the jitter
  few_released : (jobs : List Job) → ArriveFrom phase jitter jobs 0
      → releases_in jobs start width ≤ arrivals_from phase (pos start -ℤ pos jitter) (width + jitter)
  unfolding left
  few_released jobs are =
      let whole : width + jitter - 0 ≡ width + jitter = omega arith in
      omega (
        arith,
        few_left jobs 0 are,
        left_falls phase base (width + jitter) 0 (0 + jitter - start) (omega arith),
        ap (arrivals_from phase (base +ℤ pos 0)) whole,
        ap (λ z. arrivals_from phase z (width + jitter)) no_later,
      )

-- in a legal run no more jobs are released in a window than arrive from the jitter before it on
pub released_in_phase : (system : System) → IsSound system → (run : Run) → IsLegal system run
    → (task : ℕ) → task < length system.tasks → (phase : Phase) → phase_of (timing_at system task).pattern ≡ Some phase → (start width : ℕ)
    → releases_in (jobs_of run task) start width
    ≤ arrivals_from phase (pos start -ℤ pos (greatest_jitter (timing_at system task).pattern)) (width + greatest_jitter (timing_at system task).pattern)
released_in_phase system sound run legal task is phase has start width =
    few_released phase (phase_is (timing_at system task).pattern phase has (sound.tasks task is).pattern)
    (greatest_jitter (timing_at system task).pattern) start width (jobs_of run task)
    (record {
      arrive = run_arrives system sound run legal task is phase has;
      late = released_late system sound run legal task is;
      within = released_within system sound run legal task is;
      rise = λ job h. arrivals_rise system sound run legal task is job (suc job) (omega arith) h;
      first = λ h. omega arith;
    })
