-- What each kind of stimulus has: its stimulus is of its kind, and its distances are few ticks where it is in range.
use Rattle.std.proofs.Common.{◌≡◌, ◌≤◌, refl, arith}
use Rattle.cl_model.specs.{declared.{limits.TheConstants.MOST_TICKS, stimulus.StimulusKind.{StimulusKind, TheVariants.{Periodic, Sporadic, Burst}}}, Ranges.IsKindInRange, Timing.{least_distance, greatest_distance}}
use Rattle.cl_stim.specs.AnyStimulus.{kind_of, as_stimulus}

pub kind_of-as_stimulus : (kind : StimulusKind) → kind_of (as_stimulus kind) ≡ kind
kind_of-as_stimulus (Periodic period offset jitter) = refl
kind_of-as_stimulus (Sporadic least greatest) = refl
kind_of-as_stimulus (Burst period offset count distance) = refl

pub least_few : (kind : StimulusKind) → IsKindInRange kind → least_distance kind ≤ MOST_TICKS
least_few (Periodic period offset jitter) in_range = in_range.0.1
least_few (Sporadic least greatest) in_range = in_range.0.1
least_few (Burst period offset count distance) in_range = in_range.3.1

pub greatest_few : (kind : StimulusKind) → IsKindInRange kind → greatest_distance kind ≤ MOST_TICKS
greatest_few (Periodic period offset jitter) in_range = in_range.0.1
greatest_few (Sporadic least greatest) in_range = in_range.1.1
greatest_few (Burst period offset count distance) in_range = omega (arith, in_range.0.1)
