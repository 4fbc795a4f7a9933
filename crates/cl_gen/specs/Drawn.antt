-- Drawn job tables: what a lawful table leaves open is drawn with numbered words (`word` gives each its value), task by
-- task and job by job.
use Rattle.std.specs.Prelude.{ℕ, zero, suc, ◌+◌, ◌-◌, ◌*◌, List, [], ◌∷◌, length, map}
use Rattle.std.specs.List.{range_with_len}
use Rattle.cl_model.specs.declared.{model.SystemModel.SystemModel, stimulus.StimulusKind.{StimulusKind, TheVariants.{Periodic, Sporadic, Burst}}}
use Rattle.cl_runs.specs.{declared.job.{Job.Job, JobTable.JobTable}, Pattern.burst_gap, TaskTiming.{TimeRange, Timing}, SystemOf.system_of}
use Rattle.cl_gen.specs.{Words.{word_of, draw}, Arrivals.arrivals_below}

-- ---- the words of a job, in order: for its arrival, for its release, and one for the time of each runnable
--
--               arrival  release
--     periodic     0        1
--     sporadic     1        0
--     bursts       0        0

abbrev pub arrival_words : StimulusKind → ℕ
arrival_words (Periodic period offset jitter) = 0
arrival_words (Sporadic least greatest) = 1
arrival_words (Burst period offset count distance) = 0

abbrev pub release_words : StimulusKind → ℕ
release_words (Periodic period offset jitter) = 1
release_words (Sporadic least greatest) = 0
release_words (Burst period offset count distance) = 0

-- how many a job takes
abbrev pub job_draws : StimulusKind → List TimeRange → ℕ
job_draws pattern ranges = arrival_words pattern + release_words pattern + length ranges

-- ---- what a word makes of a job, where one is taken

-- when the first job arrives
abbrev pub first_drawn_arrival : StimulusKind → (word : ℕ) → ℕ
first_drawn_arrival (Periodic period offset jitter) word = offset
first_drawn_arrival (Sporadic least greatest) word = draw 0 (greatest - 1) word
first_drawn_arrival (Burst period offset count distance) word = offset

-- how much later than job k the next one arrives
abbrev pub gap_after : StimulusKind → (k word : ℕ) → ℕ
gap_after (Periodic period offset jitter) k word = period
gap_after (Sporadic least greatest) k word = draw least greatest word
gap_after (Burst period offset count distance) k word = burst_gap period count distance k

-- how long after its arrival a job is released
abbrev pub release_delay : StimulusKind → (word : ℕ) → ℕ
release_delay (Periodic period offset jitter) word = draw 0 jitter word
release_delay (Sporadic least greatest) word = 0
release_delay (Burst period offset count distance) word = 0

-- the time of each runnable, the first by word n
abbrev pub drawn_times : (word : ℕ → ℕ) → (n : ℕ) → List TimeRange → List ℕ
drawn_times word n [] = []
drawn_times word n (range ∷ ranges) = draw range.least range.greatest (word n) ∷ drawn_times word (n + 1) ranges

-- ---- the jobs of a task whose words begin at word `from`, by its pattern and the ranges of its runnables

-- the first word of job k
abbrev pub job_word : (from : ℕ) → StimulusKind → List TimeRange → (k : ℕ) → ℕ
job_word from pattern ranges k = from + k * job_draws pattern ranges

-- when job k arrives
unfoldable pub drawn_arrival : (word : ℕ → ℕ) → (from : ℕ) → StimulusKind → List TimeRange → (k : ℕ) → ℕ
drawn_arrival word from pattern ranges zero = first_drawn_arrival pattern (word from)
drawn_arrival word from pattern ranges (suc k) =
    drawn_arrival word from pattern ranges k + gap_after pattern k (word (job_word from pattern ranges (suc k)))

-- job k: behind the words for its arrival stand those for its release, and behind these the ones for its times
unfoldable pub drawn_job : (word : ℕ → ℕ) → (from : ℕ) → StimulusKind → List TimeRange → (k : ℕ) → Job
drawn_job word from pattern ranges k =
    let arrival = drawn_arrival word from pattern ranges k in
    let n = job_word from pattern ranges k + arrival_words pattern in
    record {
      arrival = arrival;
      release = arrival + release_delay pattern (word n);
      times = drawn_times word (n + release_words pattern) ranges;
    }

-- how many jobs arrive in the first ticks
unfoldable pub drawn_count : (word : ℕ → ℕ) → (from : ℕ) → StimulusKind → List TimeRange → (ticks : ℕ) → ℕ
drawn_count word from pattern ranges ticks = arrivals_below (drawn_arrival word from pattern ranges) ticks

-- the jobs that do
abbrev pub drawn_jobs : (word : ℕ → ℕ) → (from : ℕ) → StimulusKind → List TimeRange → (ticks : ℕ) → List Job
drawn_jobs word from pattern ranges ticks =
    map (drawn_job word from pattern ranges) (range_with_len 0 (drawn_count word from pattern ranges ticks))

-- the first word of the next task: an arrival at the end or past it has taken its word too
abbrev pub word_after : (word : ℕ → ℕ) → (from : ℕ) → StimulusKind → List TimeRange → (ticks : ℕ) → ℕ
word_after word from pattern ranges ticks =
    job_word from pattern ranges (drawn_count word from pattern ranges ticks) + arrival_words pattern

-- ---- the jobs of all tasks

-- those of each task, from word `from` on
abbrev pub drawn_tasks : (word : ℕ → ℕ) → (ticks from : ℕ) → List Timing → List (List Job)
drawn_tasks word ticks from [] = []
drawn_tasks word ticks from (task ∷ tasks) =
    drawn_jobs word from task.pattern task.ranges ticks ∷ drawn_tasks word ticks (word_after word from task.pattern task.ranges ticks) tasks

-- the job table that the words of a seed draw for a model
unfoldable pub drawn : SystemModel → (ticks seed : ℕ) → JobTable
drawn model ticks seed = record { ticks = ticks; jobs = drawn_tasks (word_of seed) ticks 0 (system_of model).tasks }
