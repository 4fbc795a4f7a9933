-- Which groups of a chain keep their phase: along the chain, those beside which the phases that are kept come round
-- soon. Times are in ticks.
use Rattle.std.specs.Prelude.{ℕ, Bool, nat_le, if◌then◌else◌, List, [], ◌∷◌, Option, Some, None}
use Rattle.std.specs.List.{list_any}
use Rattle.cl_stim.specs.{declared.phase.Phase.Phase, Multiples.hyperperiod_of, Phase.arrivals_in}
use Rattle.cl_phase.specs.declared.pace.{TheConstants.MOST_ARRIVALS, Pace.{Pace, TheVariants.{Kept, Free}}}

-- phases come round soon where in their hyperperiod one of them has few arrivals
abbrev pub come_round_soon : List Phase → Bool
come_round_soon phases = list_any (λ (phase : Phase). nat_le (arrivals_in (hyperperiod_of phases) phase) MOST_ARRIVALS) phases

-- the phase that a stimulus keeps beside those that are kept so far: its own, where it has one and with it they still
-- come round soon
abbrev pub phase_beside : List Phase → Option Phase → Option Phase
phase_beside kept None = None
phase_beside kept (Some phase) = if come_round_soon (phase ∷ kept) then Some phase else None

-- the phases that are kept with one more
abbrev pub kept_with : List Phase → Option Phase → List Phase
kept_with kept None = kept
kept_with kept (Some phase) = phase ∷ kept

-- the pace of a group with this greatest distance between arrivals that keeps a phase, or none
abbrev pub pace_with : (greatest : ℕ) → Option Phase → Pace
pace_with greatest None = Free greatest
pace_with greatest (Some phase) = Kept phase

-- the phases that are kept, along the chain
unfoldable pub phases_in : List Pace → List Phase
phases_in [] = []
phases_in (Kept phase ∷ paces) = phase ∷ phases_in paces
phases_in (Free greatest ∷ paces) = phases_in paces
