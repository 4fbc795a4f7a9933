-- The jobs that are drawn for a task: how far apart they arrive, and in which ranges their numbers lie.
use Rattle.std.proofs.Common.{◌≡◌, ℕ, zero, suc, ◌+◌, ◌-◌, ◌<◌, ◌≤◌, List, [], ◌∷◌, map, sym, ap, subst, arith, add-one}
use Rattle.std.specs.Prelude.{All}
use Rattle.std.specs.List.{range_with_len, AllZip}
use Rattle.std.proofs.lemmas.List.Elements.{All-map}
use Rattle.cl_model.specs.{declared.stimulus.StimulusKind.{StimulusKind, TheVariants.{Periodic, Sporadic, Burst}}, Timing.greatest_jitter}
use Rattle.cl_runs.specs.{declared.job.Job.Job, Pattern.{IsPattern, first_least, first_greatest, least_gap, greatest_gap}, Arrivals.{IsArrival, AreArrivalsFrom, FollowPattern}, TaskTiming.TimeRange, Table.LiesIn}
use Rattle.cl_runs.proofs.PatternFacts.{gap_positive}
use Rattle.cl_gen.specs.Drawn.{arrival_words, first_drawn_arrival, gap_after, release_delay, drawn_times, job_word, drawn_arrival, drawn_job, drawn_count, drawn_jobs}
use Rattle.cl_gen.proofs.{RisingArrivals.{all_below, end_reached}, Words.{draw_least, draw_greatest}}

-- ---- what a word makes of a job

first_early : (pattern : StimulusKind) → IsPattern pattern → (word : ℕ) → first_least pattern ≤ first_drawn_arrival pattern word
first_early (Periodic period offset jitter) well word = omega arith
first_early (Sporadic least greatest) well word = omega arith
first_early (Burst period offset count distance) well word = omega arith

first_late : (pattern : StimulusKind) → IsPattern pattern → (word : ℕ) → first_drawn_arrival pattern word ≤ first_greatest pattern
first_late (Periodic period offset jitter) well word = omega arith
first_late (Sporadic least greatest) well word = draw_greatest 0 (greatest - 1) word (omega arith)
first_late (Burst period offset count distance) well word = omega arith

pub gap_least : (pattern : StimulusKind) → IsPattern pattern → (k word : ℕ) → least_gap pattern k ≤ gap_after pattern k word
gap_least (Periodic period offset jitter) well k word = omega arith
gap_least (Sporadic least greatest) well k word = draw_least least greatest word
gap_least (Burst period offset count distance) well k word = omega arith

pub gap_greatest : (pattern : StimulusKind) → IsPattern pattern → (k word : ℕ) → gap_after pattern k word ≤ greatest_gap pattern k
gap_greatest (Periodic period offset jitter) well k word = omega arith
gap_greatest (Sporadic least greatest) well k word = draw_greatest least greatest word well.1
gap_greatest (Burst period offset count distance) well k word = omega arith

pub delay_within : (pattern : StimulusKind) (word : ℕ) → release_delay pattern word ≤ greatest_jitter pattern
delay_within (Periodic period offset jitter) word = draw_greatest 0 jitter word (omega arith)
delay_within (Sporadic least greatest) word = omega arith
delay_within (Burst period offset count distance) word = omega arith

-- ---- times

abbrev pub AreOrdered : List TimeRange → Type 0
AreOrdered ranges = All (λ (range : TimeRange). range.least ≤ range.greatest) ranges

times_within : (word : ℕ → ℕ) (ranges : List TimeRange) (n : ℕ) → AreOrdered ranges → AllZip LiesIn ranges (drawn_times word n ranges)
times_within word [] n ordered = _
times_within word (range ∷ ranges) n ordered = (
  (draw_least range.least range.greatest (word n), draw_greatest range.least range.greatest (word n) (ordered 0 range (omega arith))),
  times_within word ranges (n + 1) (λ k d lt. ordered (suc k) d (omega arith)),
)

-- ---- the jobs of a task

module _ (word : ℕ → ℕ) (from : ℕ) (pattern : StimulusKind) (ranges : List TimeRange) (well : IsPattern pattern) where
  pub arrivals_rise : (k : ℕ) → drawn_arrival word from pattern ranges k < drawn_arrival word from pattern ranges (suc k)
  unfolding drawn_arrival
  arrivals_rise k =
      omega (arith, gap_positive pattern well k, gap_least pattern well k (word (job_word from pattern ranges (suc k))))

  -- job k is one that may arrive in an interval that its arrival lies in
  may_arrive : (ticks k low high : ℕ) → low ≤ drawn_arrival word from pattern ranges k → drawn_arrival word from pattern ranges k ≤ high
      → drawn_arrival word from pattern ranges k < ticks → IsArrival pattern ticks low high (drawn_job word from pattern ranges k)
  unfolding drawn_job
  may_arrive ticks k low high early late lt = record {
    not_early = early;
    not_late = late;
    arrives = lt;
    released = omega arith;
    in_jitter = omega (arith, delay_within pattern (word (job_word from pattern ranges k + arrival_words pattern)));
  }

  -- the jobs from number k on follow the pattern, as many as arrive before the end
  follow_from : (ticks m k low high : ℕ) → low ≤ drawn_arrival word from pattern ranges k → drawn_arrival word from pattern ranges k ≤ high
      → ((j : ℕ) → j < k + m → drawn_arrival word from pattern ranges j < ticks) → ticks ≤ drawn_arrival word from pattern ranges (k + m)
      → AreArrivalsFrom pattern ticks k low high (map (drawn_job word from pattern ranges) (range_with_len k m))
  unfolding drawn_job drawn_arrival
  follow_from ticks zero k low high early late below end =
      let same : k + 0 ≡ k = omega arith in omega (arith, end, late, ap (drawn_arrival word from pattern ranges) same)
  follow_from ticks (suc m) k low high early late below end = (
    may_arrive ticks k low high early late (below k (omega arith)),
    subst (λ a. AreArrivalsFrom pattern ticks (suc k) (drawn_arrival word from pattern ranges k + least_gap pattern k)
        (drawn_arrival word from pattern ranges k + greatest_gap pattern k) (map (drawn_job word from pattern ranges) (range_with_len a m)))
        (sym (add-one k))
        (follow_from ticks m (suc k) _ _
        (omega (arith, gap_least pattern well k (word (job_word from pattern ranges (suc k)))))
        (omega (arith, gap_greatest pattern well k (word (job_word from pattern ranges (suc k)))))
        (λ j lt. below j (omega arith))
        (let same : k + suc m ≡ suc k + m = omega arith in omega (arith, end, ap (drawn_arrival word from pattern ranges) same))),
  )

  pub jobs_follow : (ticks : ℕ) → FollowPattern pattern ticks (drawn_jobs word from pattern ranges ticks)
  unfolding drawn_arrival drawn_count
  jobs_follow ticks =
      let arrival = drawn_arrival word from pattern ranges in
      let n = drawn_count word from pattern ranges ticks in
      let all : 0 + n ≡ n = omega arith in
      follow_from ticks n 0 (first_least pattern) (first_greatest pattern)
      (first_early pattern well (word from))
      (first_late pattern well (word from))
      (λ j lt. all_below arrival arrivals_rise ticks j (omega arith))
      (omega (arith, end_reached arrival arrivals_rise ticks, ap arrival all))

  pub jobs_have_times : AreOrdered ranges → (ticks : ℕ) → All (λ (job : Job). AllZip LiesIn ranges job.times) (drawn_jobs word from pattern ranges ticks)
  unfolding drawn_job
  jobs_have_times ordered ticks = All-map (λ (job : Job). AllZip LiesIn ranges job.times) (drawn_job word from pattern ranges) _
      (λ p d lt. times_within word ranges _ ordered)
