-- When the jobs of a task arrive, by the kind of its stimulus and the number of the job.
-- source: AMALTHEA's periodic, sporadic and periodic burst stimuli; their meaning in whole ticks is said here
use Rattle.std.specs.Prelude.{ℕ, suc, ◌-◌, ◌*◌, ◌%◌, ◌≤◌, cond, nat_lt}
use Rattle.cl_model.specs.declared.stimulus.StimulusKind.{StimulusKind, TheVariants.{Periodic, Sporadic, Burst}}

-- a well-formed pattern: jobs arrive at least one tick apart, no least gap is greater than its greatest, and a burst
-- has a job and fits its period
abbrev pub IsPattern : StimulusKind → Type 0
IsPattern (Periodic period offset jitter) = 1 ≤ period
IsPattern (Sporadic least greatest) = (1 ≤ least) × (least ≤ greatest)
IsPattern (Burst period offset count distance) = (1 ≤ count) × (1 ≤ distance) × (count * distance ≤ period)

-- the first arrival lies in [first_least, first_greatest]
abbrev pub first_least : StimulusKind → ℕ
first_least (Periodic period offset jitter) = offset
first_least (Sporadic least greatest) = 0
first_least (Burst period offset count distance) = offset

abbrev pub first_greatest : StimulusKind → ℕ
first_greatest (Periodic period offset jitter) = offset
first_greatest (Sporadic least greatest) = greatest - 1
first_greatest (Burst period offset count distance) = offset

-- the gap after job `k` of bursts: their distance, and after the last job of a burst what is left of the period
abbrev pub burst_gap : (period count distance k : ℕ) → ℕ
burst_gap period count distance k = cond (nat_lt (suc (k % count)) count) distance (period - (count - 1) * distance)

-- the job after job `k` arrives `least_gap` to `greatest_gap` ticks after job `k`
abbrev pub least_gap : StimulusKind → (k : ℕ) → ℕ
least_gap (Periodic period offset jitter) k = period
least_gap (Sporadic least greatest) k = least
least_gap (Burst period offset count distance) k = burst_gap period count distance k

abbrev pub greatest_gap : StimulusKind → (k : ℕ) → ℕ
greatest_gap (Periodic period offset jitter) k = period
greatest_gap (Sporadic least greatest) k = greatest
greatest_gap (Burst period offset count distance) k = burst_gap period count distance k
