-- The stimuli of valid models.
use Rattle.cl_model.specs.{declared.stimulus.StimulusKind.StimulusKind, Ranges.IsKindInRange, Timing.IsKindOrdered}

-- a stimulus of a valid model: its numbers are in range and in order
abbrev pub IsStimulus : StimulusKind → Type 0
IsStimulus kind = IsKindInRange kind × IsKindOrdered kind
