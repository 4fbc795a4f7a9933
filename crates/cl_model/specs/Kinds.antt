-- The kinds of access, of stimuli and of requirements: how they are spelled, which access is timed, and which stimuli are
-- periodic.
use Rattle.std.specs.Prelude.{ℕ, Bool, true, false, List, codes}
use Rattle.cl_model.specs.declared.{chain.{LengthKind.{LengthKind, TheVariants.{Reaction, Age, Reduced}}, RequirementKind.{RequirementKind, TheVariants.{Length, Delay}}}, stimulus.StimulusKind.{StimulusKind, TheVariants.{Periodic, Sporadic, Burst}}, task.AccessKind.AccessKind}
use Rattle.cl_model.specs.declared.task.AccessKind.TheVariants.{Explicit, Implicit, Timed}

-- the word of a kind of access
abbrev pub access_word : AccessKind → List ℕ
access_word Explicit = codes "explicit"
access_word Implicit = codes "implicit"
access_word Timed = codes "timed"

-- whether a kind of access is timed: its tasks read and write at the arrival and the deadline of their jobs
abbrev pub is_timed : AccessKind → Bool
is_timed Explicit = false
is_timed Implicit = false
is_timed Timed = true

-- whether jobs arrive by one period
abbrev pub is_periodic : StimulusKind → Bool
is_periodic (Periodic period offset jitter) = true
is_periodic (Sporadic least greatest) = false
is_periodic (Burst period offset count distance) = false

-- the word of a kind of length
abbrev pub length_word : LengthKind → List ℕ
length_word Reaction = codes "reaction"
length_word Age = codes "age"
length_word Reduced = codes "reduced"

-- the word of a kind of requirement
abbrev pub requirement_word : RequirementKind → List ℕ
requirement_word (Length kind) = length_word kind
requirement_word Delay = codes "delay"

-- whether what a requirement limits is the delay
abbrev pub is_delay : RequirementKind → Bool
is_delay (Length kind) = false
is_delay Delay = true
