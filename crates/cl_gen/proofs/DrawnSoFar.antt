-- Drawing job after job: what holds of the jobs so far, of one more, and of all.
use Rattle.std.proofs.Common.{◌≡◌, ℕ, zero, suc, ◌+◌, ◌*◌, ◌^◌, ◌<◌, ◌≤◌, inl, inr, List, [], ◌∷◌, ◌++◌, length, map, refl, sym, ap, ◌∙◌, subst, arith, add-one, length-append}
use Rattle.std.specs.List.{range_with_len}
use Rattle.std.proofs.lemmas.Bool.{cases_lt}
use Rattle.std.proofs.lemmas.Nat.{mul-le}
use Rattle.std.proofs.lemmas.List.FromFn.{map-range_with_len_more}
use Rattle.cl_model.specs.{declared.{limits.TheConstants.{MOST_TICKS, MOST_RUNNABLES}, stimulus.StimulusKind.{StimulusKind, TheVariants.{Periodic, Sporadic, Burst}}}, Ranges.IsKindInRange, Timing.{greatest_jitter, greatest_distance}}
use Rattle.cl_runs.specs.{declared.job.Job.Job, Pattern.IsPattern, TaskTiming.TimeRange}
use Rattle.cl_runs.proofs.PatternFacts.{gap_positive, greatest_within}
use Rattle.cl_gen.specs.{declared.limits.TheConstants.MOST_RUN_TICKS, Drawn.{arrival_words, release_words, job_draws, first_drawn_arrival, gap_after, release_delay, job_word, drawn_arrival, drawn_job, drawn_count, drawn_jobs, word_after}, Inner.Arriving.job_arriving}
use Rattle.cl_gen.proofs.{DrawnJobs.{delay_within, gap_least, gap_greatest, arrivals_rise}, RisingArrivals.{number_below, below_is}}

-- ---- numbers that fit

-- a release is little later than its arrival, and an arrival little later than the one before
jitter_few : (pattern : StimulusKind) → IsKindInRange pattern → greatest_jitter pattern ≤ MOST_TICKS
jitter_few (Periodic period offset jitter) in_range = in_range.2
jitter_few (Sporadic least greatest) in_range = omega arith
jitter_few (Burst period offset count distance) in_range = omega arith

pub delay_few : (pattern : StimulusKind) (word : ℕ) → IsKindInRange pattern → release_delay pattern word ≤ MOST_TICKS
delay_few pattern word in_range = omega (arith, delay_within pattern word, jitter_few pattern in_range)

distance_few : (pattern : StimulusKind) → IsKindInRange pattern → greatest_distance pattern ≤ MOST_TICKS
distance_few (Periodic period offset jitter) in_range = in_range.0.1
distance_few (Sporadic least greatest) in_range = in_range.1.1
distance_few (Burst period offset count distance) in_range = omega (arith, in_range.0.1)

pub gap_few : (pattern : StimulusKind) (k word : ℕ) → IsKindInRange pattern → IsPattern pattern → gap_after pattern k word ≤ MOST_TICKS
gap_few pattern k word in_range well =
    omega (arith, gap_greatest pattern well k word, greatest_within pattern well k, distance_few pattern in_range)

-- a job takes few words
one_word : (pattern : StimulusKind) → arrival_words pattern + release_words pattern ≤ 1
one_word (Periodic period offset jitter) = omega arith
one_word (Sporadic least greatest) = omega arith
one_word (Burst period offset count distance) = omega arith

pub words_few : (pattern : StimulusKind) (ranges : List TimeRange) (n : ℕ) → length ranges ≤ MOST_RUNNABLES → n ≤ MOST_RUN_TICKS
    → n * job_draws pattern ranges + arrival_words pattern ≤ 2 ^ 39
words_few pattern ranges n few short =
    let width : job_draws pattern ranges ≤ 257 = omega (arith, one_word pattern) in
    omega (arith, mul-le n (job_draws pattern ranges) MOST_RUN_TICKS 257 short width, one_word pattern)

-- ---- job after job

-- the first jobs, and when the next one arrives
pub record AreDrawnSoFar (word : ℕ → ℕ) (from : ℕ) (pattern : StimulusKind) (ranges : List TimeRange) (ticks : ℕ) (jobs : List Job) (arrival : ℕ) : Type 0 where
  pub jobs_are : jobs ≡ map (drawn_job word from pattern ranges) (range_with_len 0 (length jobs))
  pub next : arrival ≡ drawn_arrival word from pattern ranges (length jobs)
  pub below : (k : ℕ) → k < length jobs → drawn_arrival word from pattern ranges k < ticks

module _ (word : ℕ → ℕ) (from : ℕ) (pattern : StimulusKind) (ranges : List TimeRange) (ticks : ℕ) where
  pub none_yet : (jobs : List Job) (arrival : ℕ) → jobs ≡ [] → arrival ≡ first_drawn_arrival pattern (word from)
      → AreDrawnSoFar word from pattern ranges ticks jobs arrival
  unfolding drawn_arrival
  none_yet jobs arrival none first = subst (λ list. AreDrawnSoFar word from pattern ranges ticks list arrival) (sym none)
      (record { jobs_are = refl; next = first; below = λ k lt. absurd (omega arith) })

  more_below : (jobs : List Job) (arrival : ℕ) → AreDrawnSoFar word from pattern ranges ticks jobs arrival → arrival < ticks
      → (k : ℕ) → k < suc (length jobs) → drawn_arrival word from pattern ranges k < ticks
  more_below jobs arrival so_far early k lt = elim (cases_lt k (length jobs)) [
    | inl less ↦ so_far.below k less
    | inr not ↦ let same : k ≡ length jobs = omega arith in omega (arith, early, so_far.next, ap (drawn_arrival word from pattern ranges) same)
  ]

  pub one_more : (jobs more : List Job) (job : Job) (arrival gap : ℕ) → AreDrawnSoFar word from pattern ranges ticks jobs arrival → arrival < ticks
      → job ≡ job_arriving word (job_word from pattern ranges (length jobs) + arrival_words pattern) pattern ranges arrival
      → gap ≡ gap_after pattern (length jobs) (word (job_word from pattern ranges (suc (length jobs))))
      → more ≡ jobs ++ job ∷ [] → AreDrawnSoFar word from pattern ranges ticks more (arrival + gap)
  unfolding drawn_arrival drawn_job
  one_more jobs more job arrival gap so_far early is_job is_gap is_more =
      let long : length more ≡ suc (length jobs) = omega (arith, ap length is_more, length-append jobs (job ∷ [])) in
      let here : job ≡ drawn_job word from pattern ranges (length jobs)
      = is_job ∙ ap (λ a. job_arriving word (job_word from pattern ranges (length jobs) + arrival_words pattern) pattern ranges a) so_far.next in
      record {
        jobs_are = is_more ∙ ap (λ list. list ++ job ∷ []) so_far.jobs_are
            ∙ ap (λ (j : Job). map (drawn_job word from pattern ranges) (range_with_len 0 (length jobs)) ++ j ∷ []) here
            ∙ sym (map-range_with_len_more (drawn_job word from pattern ranges) 0 (length jobs) (length jobs) (omega arith))
            ∙ ap (λ n. map (drawn_job word from pattern ranges) (range_with_len 0 n)) (add-one (length jobs) ∙ sym long);
        next = ap (λ a. a + gap) so_far.next ∙ ap (λ g. drawn_arrival word from pattern ranges (length jobs) + g) is_gap
            ∙ ap (drawn_arrival word from pattern ranges) (sym long);
        below = λ k lt. more_below jobs arrival so_far early k (omega (arith, lt, long));
      }

  module _ (well : IsPattern pattern) (jobs : List Job) (arrival : ℕ) (so_far : AreDrawnSoFar word from pattern ranges ticks jobs arrival) where
    rises : (k : ℕ) → drawn_arrival word from pattern ranges k < drawn_arrival word from pattern ranges (suc k)
    rises = arrivals_rise word from pattern ranges well

    -- there are no more jobs than ticks
    pub jobs_few : length jobs ≤ arrival
    jobs_few = omega (arith, number_below (drawn_arrival word from pattern ranges) rises (length jobs), so_far.next)

    pub jobs_within : length jobs ≤ ticks
    jobs_within = few (length jobs) so_far.below
      where
        few : (m : ℕ) → ((k : ℕ) → k < m → drawn_arrival word from pattern ranges k < ticks) → m ≤ ticks
        few zero lt = omega arith
        few (suc m) lt = omega (arith, number_below (drawn_arrival word from pattern ranges) rises m, lt m (omega arith))

    pub count_is : ticks ≤ arrival → drawn_count word from pattern ranges ticks ≡ length jobs
    unfolding drawn_count
    count_is end = below_is (drawn_arrival word from pattern ranges) rises ticks (length jobs) so_far.below (omega (arith, end, so_far.next))

    pub all_drawn : ticks ≤ arrival → jobs ≡ drawn_jobs word from pattern ranges ticks
    all_drawn end =
        so_far.jobs_are ∙ ap (λ n. map (drawn_job word from pattern ranges) (range_with_len 0 n)) (sym (count_is end))

    pub word_after_all : ticks ≤ arrival → job_word from pattern ranges (length jobs) + arrival_words pattern ≡ word_after word from pattern ranges ticks
    word_after_all end = ap (λ n. job_word from pattern ranges n + arrival_words pattern) (sym (count_is end))

-- where the next job's words begin
pub next_word_is : (from : ℕ) (pattern : StimulusKind) (ranges : List TimeRange) (k count : ℕ) → count ≡ length ranges
    → job_word from pattern ranges k + arrival_words pattern + release_words pattern + count ≡ job_word from pattern ranges (suc k)
next_word_is from pattern ranges k count long = omega arith

-- and how many words are taken by then
pub taken_few : (from : ℕ) (pattern : StimulusKind) (ranges : List TimeRange) (n words count : ℕ) → count ≡ length ranges → count ≤ MOST_RUNNABLES
    → words ≡ job_word from pattern ranges n + arrival_words pattern → n ≤ MOST_RUN_TICKS → words ≤ from + 2 ^ 39
taken_few from pattern ranges n words count long few is short =
    omega (arith, is, words_few pattern ranges n (omega (arith, long, few)) short)

pub first_word_is : (from : ℕ) (pattern : StimulusKind) (ranges : List TimeRange) (n more : ℕ) → n ≡ 0
    → from + more ≡ job_word from pattern ranges n + more
first_word_is from pattern ranges n more none = omega (arith, ap (λ k. k * job_draws pattern ranges) none)

pub few_at_release : (pattern : StimulusKind) → release_words pattern ≤ 1
few_at_release pattern = omega (arith, one_word pattern)

pub gap_some : (pattern : StimulusKind) (k word : ℕ) → IsPattern pattern → 1 ≤ gap_after pattern k word
gap_some pattern k word well = omega (arith, gap_positive pattern well k, gap_least pattern well k word)
