-- The bounds on the reaction, the age, the reduced age and the delay of a chain, as sums over its groups.
use Rattle.std.specs.Prelude.{◌≡◌, ℕ, ℤ, pos, ◌+ℤ◌, ◌-ℤ◌, List, [], ◌∷◌}
use Rattle.cl_hop.specs.{Hops.{forward_hop, backward_hop, hops}, declared.group_timing.GroupTiming.GroupTiming}

-- the last group of a chain
abbrev pub last_of : GroupTiming → List GroupTiming → GroupTiming
last_of first [] = first
last_of first (next ∷ groups) = last_of next groups

-- from the read of the job before the first to the write of the last
abbrev pub greatest_reaction : List GroupTiming → ℤ
greatest_reaction [] = pos 0
greatest_reaction (first ∷ groups) =
    ((pos first.distance -ℤ pos first.read) +ℤ hops forward_hop first groups) +ℤ pos (last_of first groups).write

-- from the read of the first to the write of the last
abbrev pub greatest_reduced : List GroupTiming → ℤ
greatest_reduced [] = pos 0
greatest_reduced (first ∷ groups) = (pos (last_of first groups).write -ℤ pos first.read) +ℤ hops backward_hop first groups

-- from the read of the first to the write of the job after the last
abbrev pub greatest_age : List GroupTiming → ℤ
greatest_age [] = pos 0
greatest_age (first ∷ groups) = pos (last_of first groups).distance +ℤ greatest_reduced (first ∷ groups)

-- from the arrival of the first to the write of the last
abbrev pub greatest_delay : List GroupTiming → ℤ
greatest_delay [] = pos 0
greatest_delay (first ∷ groups) = hops forward_hop first groups +ℤ pos (last_of first groups).write

-- the four bounds of a chain
pub record Lengths : Type 0 where
  pub reaction : ℕ
  pub age : ℕ
  pub reduced : ℕ
  pub delay : ℕ

-- the bounds of a chain of these groups are those sums over signed numbers
pub record AreBoundsOf (groups : List GroupTiming) (bounds : Lengths) : Type 0 where
  pub reaction : pos bounds.reaction ≡ greatest_reaction groups
  pub age : pos bounds.age ≡ greatest_age groups
  pub reduced : pos bounds.reduced ≡ greatest_reduced groups
  pub delay : pos bounds.delay ≡ greatest_delay groups
