-- A job that is drawn once it is known when it arrives.
use Rattle.std.specs.Prelude.{ℕ, ◌+◌, List}
use Rattle.cl_model.specs.declared.stimulus.StimulusKind.{StimulusKind}
use Rattle.cl_runs.specs.{declared.job.Job.Job, TaskTiming.TimeRange}
use Rattle.cl_gen.specs.Drawn.{release_words, release_delay, drawn_times}

-- word n is the next one
abbrev pub job_arriving : (word : ℕ → ℕ) → (n : ℕ) → StimulusKind → List TimeRange → (arrival : ℕ) → Job
job_arriving word n pattern ranges arrival = record {
  arrival = arrival;
  release = arrival + release_delay pattern (word n);
  times = drawn_times word (n + release_words pattern) ranges;
}
