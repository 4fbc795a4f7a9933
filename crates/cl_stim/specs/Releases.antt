-- How many releases a window of ticks can hold.
use Rattle.std.specs.Prelude.{ℕ, ◌+◌, ◌*◌, ◌/◌, ◌%◌, ◌&&◌, min, nat_le, nat_lt, List, count_by}
use Rattle.std.specs.Int.{div_ceil}
use Rattle.cl_model.specs.declared.stimulus.StimulusKind.{StimulusKind, TheVariants.{Periodic, Sporadic, Burst}}
use Rattle.cl_runs.specs.declared.job.Job.{Job}

-- the number of jobs that are released in the `width` ticks from `start` on
unfoldable pub releases_in : List Job → (start width : ℕ) → ℕ
releases_in jobs start width = count_by (λ (job : Job). nat_le start job.release && nat_lt job.release (start + width)) jobs

-- the most releases in `width` consecutive ticks: how often the least distance fits into the ticks with the jitter,
-- rounded up; of bursts, all jobs of as many as fit whole, and in the ticks that are left as many as one burst has
-- there.
-- Source: Audsley et al. 1993, with release jitter, and with bursts as sporadically periodic tasks
unfoldable pub most_releases : StimulusKind → (width : ℕ) → ℕ
most_releases (Periodic period offset jitter) width = div_ceil (width + jitter) period
most_releases (Sporadic least greatest) width = div_ceil width least
most_releases (Burst period offset count distance) width = width / period * count + min count (div_ceil (width % period) distance)
