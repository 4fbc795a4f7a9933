-- What a stimulus says of the jobs of a task. Times are in ticks.
use Rattle.std.specs.Prelude.{ℕ, ◌-◌, ◌*◌, ◌<◌, ◌≤◌, unwrap_or}
use Rattle.cl_model.specs.declared.{stimulus.StimulusKind.{StimulusKind, TheVariants.{Periodic, Sporadic, Burst}}, task.TaskDef.TaskDef}

-- the least distance between two arrivals
abbrev pub least_distance : StimulusKind → ℕ
least_distance (Periodic period offset jitter) = period
least_distance (Sporadic least greatest) = least
least_distance (Burst period offset count distance) = distance

-- the greatest distance between two arrivals: in bursts, that from the last job of one to the first of the next
abbrev pub greatest_distance : StimulusKind → ℕ
greatest_distance (Periodic period offset jitter) = period
greatest_distance (Sporadic least greatest) = greatest
greatest_distance (Burst period offset count distance) = period - (count - 1) * distance

-- the numbers of a stimulus are in order: the offset lies below the period, the least distance isn't above the
-- greatest, a burst fits its period
abbrev pub IsKindOrdered : StimulusKind → Type 0
IsKindOrdered (Periodic period offset jitter) = offset < period
IsKindOrdered (Sporadic least greatest) = least ≤ greatest
IsKindOrdered (Burst period offset count distance) = (offset < period) × (count * distance ≤ period)

-- how long after its arrival a job is released at most
abbrev pub greatest_jitter : StimulusKind → ℕ
greatest_jitter (Periodic period offset jitter) = jitter
greatest_jitter (Sporadic least greatest) = 0
greatest_jitter (Burst period offset count distance) = 0

-- the deadline that is given, or the least distance
abbrev pub deadline_under : StimulusKind → TaskDef → ℕ
deadline_under kind task = unwrap_or task.deadline (least_distance kind)
