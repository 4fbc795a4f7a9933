-- What code knows of the phases that a chain keeps. Times are in ticks.
use Rattle.std.specs.Prelude.{◌≡◌, ℕ, ◌-◌, ◌^◌, ◌≤◌, nat_le, min, Bool, true, false, List, [], ◌∷◌, map, All}
use Rattle.cl_model.specs.{declared.stimulus.StimulusKind.StimulusKind, Timing.greatest_distance}
use Rattle.cl_stim.specs.{declared.phase.Phase.Phase, Phase.{IsPhaseInRange, phase_of, arrivals_in}, Multiples.hyperperiod_of}
use Rattle.cl_phase.specs.{declared.{pace.Pace.{Pace, TheVariants.{Kept, Free}}, stop.Stop.Stop, keeping.Keeping.Keeping}, Kept.{come_round_soon, phase_beside, kept_with, pace_with, phases_in}, TightBounds.hyperperiod_in, Inner.Ranges.{LONGEST_HYPERPERIOD, IsPaceInRange}}

-- the fewest arrivals of one of some phases in so many ticks; the greatest number of 64 bits where there is none
abbrev pub fewest_in : (ticks : ℕ) → List Phase → ℕ
fewest_in ticks [] = 2 ^ 64 - 1
fewest_in ticks (phase ∷ phases) = min (arrivals_in ticks phase) (fewest_in ticks phases)

-- the phases that are kept so far come round in so many ticks, and one of them arrives that seldom in them
pub record AreKept (kept : List Phase) (keeping : Keeping) : Type 0 where
  pub hyperperiod : keeping.hyperperiod ≡ hyperperiod_of kept
  pub fewest : keeping.fewest ≡ fewest_in keeping.hyperperiod kept
  pub short : keeping.hyperperiod ≤ LONGEST_HYPERPERIOD
  pub phases : All IsPhaseInRange kept

-- the phases are kept with one more, which comes round soon with them
pub record AreKeptWith (phase : Phase) (kept : List Phase) (keeping : Keeping) : Type 0 where
  pub soon : come_round_soon (phase ∷ kept) ≡ true
  pub are : AreKept (phase ∷ kept) keeping

-- the pace of a group with this stimulus beside the phases that are kept so far, and these with its own
pub record IsBeside (kind : StimulusKind) (kept : List Phase) (pace : Pace) (keeping : Keeping) : Type 0 where
  pub pace_is : pace ≡ pace_with (greatest_distance kind) (phase_beside kept (phase_of kind))
  pub in_range : IsPaceInRange pace
  pub are : AreKept (kept_with kept (phase_beside kept (phase_of kind))) keeping

-- the phases that the groups of a whole chain keep
pub record AreKeptIn (stops : List Stop) (keeping : Keeping) : Type 0 where
  pub hyperperiod : keeping.hyperperiod ≡ hyperperiod_in stops
  pub fewest : keeping.fewest ≡ fewest_in keeping.hyperperiod (phases_in (map (λ (stop : Stop). stop.pace) stops))
  pub short : keeping.hyperperiod ≤ LONGEST_HYPERPERIOD

-- a group keeps its phase and has at most so many arrivals in so many ticks
abbrev pub arrives_seldom : (ticks most : ℕ) → Pace → Bool
arrives_seldom ticks most (Kept phase) = nat_le (arrivals_in ticks phase) most
arrives_seldom ticks most (Free greatest) = false
