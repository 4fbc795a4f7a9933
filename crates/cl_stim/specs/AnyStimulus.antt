-- A stimulus of any kind, and the kind that it is.
use Rattle.cl_model.specs.declared.stimulus.StimulusKind.{StimulusKind}
use Rattle.cl_model.specs.declared.stimulus.StimulusKind.TheVariants as kinds
use Rattle.cl_stim.specs.declared.any_stimulus.AnyStimulus.{AnyStimulus, TheVariants.{Periodic, Sporadic, Burst}}

-- the kind of a stimulus
abbrev pub kind_of : AnyStimulus → StimulusKind
kind_of (Periodic kind) = kind
kind_of (Sporadic kind) = kind
kind_of (Burst kind) = kind

-- the stimulus of a kind
abbrev pub as_stimulus : StimulusKind → AnyStimulus
as_stimulus (kinds.Periodic period offset jitter) = Periodic (kinds.Periodic period offset jitter)
as_stimulus (kinds.Sporadic least greatest) = Sporadic (kinds.Sporadic least greatest)
as_stimulus (kinds.Burst period offset count distance) = Burst (kinds.Burst period offset count distance)
