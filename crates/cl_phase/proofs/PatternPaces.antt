-- The pace of a pattern: its phase, where it has one, or its greatest distance.
use Rattle.std.proofs.Common.{◌≡◌, Some, arith}
use Rattle.cl_model.specs.{declared.stimulus.StimulusKind.StimulusKind, Timing.greatest_distance}
use Rattle.cl_runs.specs.Pattern.{IsPattern}
use Rattle.cl_runs.proofs.PatternFacts.{distance_positive, distances_ordered}
use Rattle.cl_stim.specs.Phase.{phase_of}
use Rattle.cl_stim.proofs.PatternPhases.{phase_is, phase_distance}
use Rattle.cl_phase.specs.{declared.pace.Pace.{Pace, TheVariants.{Kept, Free}}, Pace.{IsPace, greatest_step}}

-- a pace that is known of a pattern
abbrev pub IsPaceOf : StimulusKind → Pace → Type 0
IsPaceOf pattern (Kept phase) = phase_of pattern ≡ Some phase
IsPaceOf pattern (Free greatest) = greatest ≡ greatest_distance pattern

pub pace_is : (pattern : StimulusKind) (pace : Pace) → IsPaceOf pattern pace → IsPattern pattern → IsPace pace
pace_is pattern (Kept phase) is well = phase_is pattern phase is well
pace_is pattern (Free greatest) is well = omega (arith, is, distance_positive pattern well, distances_ordered pattern well)

-- it goes no further than the greatest distance
pub pace_step : (pattern : StimulusKind) (pace : Pace) → IsPaceOf pattern pace → greatest_step pace ≡ greatest_distance pattern
pace_step pattern (Kept phase) is = phase_distance pattern phase is
pace_step pattern (Free greatest) is = is
