-- The work of a task that is released in a window of a run: it is no less than the least times of
-- the jobs that are surely released there, and where the task isn't pending at the window's end, it
-- was executed in the window.
use Rattle.std.proofs.Common.{◌≡◌, ℕ, zero, suc, ◌+◌, ◌*◌, ◌<◌, ◌≤◌, ◌⊎◌, inl, inr, Bool, true, false, ◌&&◌, cond, nat_le, nat_lt, List, [], ◌∷◌, length, refl, ap, arith, add-mul, mul-le-mul_right}
use Rattle.std.specs.Prelude.{sum, All}
use Rattle.std.specs.List.{AllZip}
use Rattle.std.proofs.lemmas.Bool.Decides.{nat_tests}
use Rattle.std.proofs.lemmas.List.Elements.{All-head, All-tail}
use Rattle.std.proofs.lemmas.List.Sums.{sum_by-cons}
use Rattle.cl_model.specs.declared.stimulus.StimulusKind.{StimulusKind, TheVariants.{Periodic, Sporadic, Burst}}
use Rattle.cl_runs.specs.{Pattern.IsPattern, TaskTiming.{TimeRange, Timing, System, timing_at, IsSound}, declared.job.Job.Job, Arrivals.FollowPattern, Table.{LiesIn, HasTimes}, Run.{Run, jobs_of, executed}, Legal.{released, IsLegal}}
use Rattle.cl_runs.proofs.{Executed.{executed_zero, executed_climbs, executed_grew}, LegalFacts.{executed_released, running_pending}, PatternLaws.pattern_period, RunArrivals.follow_pattern}
use Rattle.cl_stim.specs.Releases.{releases_in}
use Rattle.cl_comm.specs.Windows.{least_times}
use Rattle.cl_lead.specs.Leads.{surely_released}
use Rattle.cl_lead.proofs.LeadArrivals.{released_all}

-- ---- the work that is released before a moment

before_moment : List Job → (moment : ℕ) → ℕ
before_moment [] moment = 0
before_moment (job ∷ jobs) moment = cond (nat_lt job.release moment) (sum job.times) 0 + before_moment jobs moment

released_nil : (moment : ℕ) → released [] moment ≡ 0
unfolding released
released_nil moment = refl

released_cons : (job : Job) (jobs : List Job) (moment : ℕ)
    → released (job ∷ jobs) moment ≡ cond (nat_le job.release moment) (sum job.times) 0 + released jobs moment
unfolding released
released_cons job jobs moment = sum_by-cons (λ (j : Job). cond (nat_le j.release moment) (sum j.times) 0) job jobs

part_next : (release moment time : ℕ) → cond (nat_le release moment) time 0 ≤ cond (nat_lt release (suc moment)) time 0
part_next release moment time = grind (arith, nat_tests)

-- what is released at a moment or before is released before the next
released_before_next : (jobs : List Job) (moment : ℕ) → released jobs moment ≤ before_moment jobs (suc moment)
unfolding before_moment
released_before_next [] moment = omega (arith, released_nil moment)
released_before_next (job ∷ jobs) moment =
    omega (arith, released_cons job jobs moment, part_next job.release moment (sum job.times), released_before_next jobs moment)

-- ---- what a window adds

least_sum : (ranges : List TimeRange) (times : List ℕ) → AllZip LiesIn ranges times → least_times ranges ≤ sum times
unfolding least_times
least_sum [] [] zipped = omega arith
least_sum [] (time ∷ times) zipped = absurd zipped
least_sum (range ∷ ranges) [] zipped = absurd zipped
least_sum (range ∷ ranges) (time ∷ times) zipped = omega (
  arith,
  sum_by-cons (λ (r : TimeRange). r.least) range ranges,
  sum_by-cons (λ (x : ℕ). x) time times,
  zipped.0.0,
  least_sum ranges times zipped.1,
)

none_released : (from width : ℕ) → releases_in [] from width ≡ 0
unfolding releases_in
none_released from width = refl

released_first : (job : Job) (jobs : List Job) (from width : ℕ)
    → releases_in (job ∷ jobs) from width ≡ cond (nat_le from job.release && nat_lt job.release (from + width)) 1 0 + releases_in jobs from width
unfolding releases_in
released_first job jobs from width =
    sum_by-cons (λ (j : Job). cond (nat_le from j.release && nat_lt j.release (from + width)) 1 0) job jobs

-- a job that is released in the window adds its time, which is no less than the least
part_added : (release from width least time : ℕ) → least ≤ time
    → cond (nat_lt release from) time 0 + cond (nat_le from release && nat_lt release (from + suc width)) least 0
    ≤ cond (nat_le release (from + width)) time 0
part_added release from width least time h = grind (arith, nat_tests, h)

one_or_none : (b : Bool) (least count : ℕ) → (cond b 1 0 + count) * least ≡ cond b least 0 + count * least
one_or_none true least count = omega (arith, add-mul 1 count least)
one_or_none false least count = omega (arith, add-mul 0 count least)

work_added : (task : Timing) (from width : ℕ) (jobs : List Job) → All (HasTimes task) jobs
    → before_moment jobs from + releases_in jobs from (suc width) * least_times task.ranges ≤ released jobs (from + width)
unfolding before_moment
work_added task from width [] times = omega (arith, ap (λ n. n * least_times task.ranges) (none_released from (suc width)))
work_added task from width (job ∷ jobs) times = omega (
  arith,
  released_cons job jobs (from + width),
  part_added job.release from width (least_times task.ranges) (sum job.times)
      (least_sum task.ranges job.times (All-head (HasTimes task) job jobs times)),
  one_or_none (nat_le from job.release && nat_lt job.release (from + suc width)) (least_times task.ranges) (releases_in jobs from (suc width)),
  ap (λ n. n * least_times task.ranges) (released_first job jobs from (suc width)),
  work_added task from width jobs (All-tail (HasTimes task) job jobs times),
)

-- ---- jobs that are surely released

-- what is known of a task in phase: its first job arrives before its period ends
abbrev pub IsEarly : (in_phase : Bool) → StimulusKind → Type 0
IsEarly in_phase kind = (period offset jitter : ℕ) → in_phase ≡ true → kind ≡ Periodic period offset jitter → offset < period

-- they are no more than those that are released
sure_releases : (in_phase : Bool) (kind : StimulusKind) → IsPattern kind → IsEarly in_phase kind → (ticks : ℕ) (jobs : List Job)
    → FollowPattern kind ticks jobs → (from width : ℕ) → from + suc width ≤ ticks
    → surely_released in_phase kind from width ≤ releases_in jobs from (suc width)
sure_releases true (Periodic period offset jitter) well early ticks jobs follows from width h =
    released_all period offset well (early period offset jitter refl refl) ticks jitter jobs
    (pattern_period ticks period offset jitter jobs follows) from width h
sure_releases true (Sporadic least greatest) well early ticks jobs follows from width h = omega arith
sure_releases true (Burst period offset count distance) well early ticks jobs follows from width h = omega arith
sure_releases false kind well early ticks jobs follows from width h = omega arith

-- ---- in a run

module _ (system : System) (sound : IsSound system) (run : Run) (legal : IsLegal system run) (j : ℕ) (is : j < length system.tasks) where
  executed_next : (t : ℕ) → t < run.table.ticks
      → (executed system run j (suc t) ≡ executed system run j t) ⊎ (executed system run j (suc t) ≡ suc (executed system run j t))
      → executed system run j (suc t) ≤ released (jobs_of run j) t
  executed_next t h (inl same) = omega (arith, executed_released system sound run legal j is t (omega (arith, h)))
  executed_next t h (inr more) = omega (arith, running_pending system sound run legal j is t h (executed_grew system run j t more).1)

  -- no more is executed by a moment than is released before it
  executed_before : (t : ℕ) → t ≤ run.table.ticks → executed system run j t ≤ before_moment (jobs_of run j) t
  executed_before zero h = omega (arith, executed_zero system run j)
  executed_before (suc t) h =
      omega (arith, executed_next t h (executed_climbs system run j t), released_before_next (jobs_of run j) t)

  -- where nothing is pending, what is surely released was executed
  pub sure_executed : (in_phase : Bool) → IsEarly in_phase (timing_at system j).pattern → (from width : ℕ) → from + width < run.table.ticks
      → released (jobs_of run j) (from + width) ≤ executed system run j (from + width)
      → executed system run j from + surely_released in_phase (timing_at system j).pattern from width * least_times (timing_at system j).ranges
      ≤ executed system run j (from + width)
  sure_executed in_phase early from width h done = omega (
    arith,
    done,
    executed_before from (omega (arith, h)),
    work_added (timing_at system j) from width (jobs_of run j) (legal.lawful.jobs j is).times,
    mul-le-mul_right (least_times (timing_at system j).ranges)
        (sure_releases in_phase (timing_at system j).pattern (sound.tasks j is).pattern early run.table.ticks (jobs_of run j)
        (follow_pattern system sound run legal j is) from width (omega (arith, h))),
  )
