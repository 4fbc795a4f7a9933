-- The sums of hops that the code keeps, one group after the other.
use Rattle.std.specs.Prelude.{◌≡◌, ◌^◌, ℤ, pos, ◌+ℤ◌, ◌-ℤ◌, ◌≤ℤ◌, ◌<ℤ◌, List}
use Rattle.cl_hop.specs.{declared.{group_timing.GroupTiming.GroupTiming, sums.Sums.Sums}, Hops.{forward_hop, backward_hop, hops}, Bounds.{last_of, Lengths}}

-- a bound: 1 tick or more, and within 64 bits
abbrev pub IsBound : ℤ → Type 0
IsBound z = (pos 1 ≤ℤ z) × (z <ℤ pos (2 ^ 64))

-- the sums with one more group
abbrev pub sums_with : Sums → (next : GroupTiming) → Sums
sums_with sums next = record {
  last = next;
  forward = sums.forward +ℤ forward_hop sums.last next;
  backward = sums.backward +ℤ backward_hop sums.last next;
}

-- the sums of the hops between a first group and the groups after it
abbrev pub sums_of : GroupTiming → List GroupTiming → Sums
sums_of first groups = record {
  last = last_of first groups;
  forward = hops forward_hop first groups;
  backward = hops backward_hop first groups;
}

-- the four bounds of a chain from its first group and its sums
abbrev pub reaction_in : GroupTiming → Sums → ℤ
reaction_in first sums = ((pos first.distance -ℤ pos first.read) +ℤ sums.forward) +ℤ pos sums.last.write

abbrev pub reduced_in : GroupTiming → Sums → ℤ
reduced_in first sums = (pos sums.last.write -ℤ pos first.read) +ℤ sums.backward

abbrev pub age_in : GroupTiming → Sums → ℤ
age_in first sums = pos sums.last.distance +ℤ reduced_in first sums

abbrev pub delay_in : Sums → ℤ
delay_in sums = sums.forward +ℤ pos sums.last.write

-- each of the four is a bound
pub record HaveBounds (first : GroupTiming) (sums : Sums) : Type 0 where
  pub reaction : IsBound (reaction_in first sums)
  pub age : IsBound (age_in first sums)
  pub reduced : IsBound (reduced_in first sums)
  pub delay : IsBound (delay_in sums)

-- the bounds are the four
pub record AreBoundsIn (first : GroupTiming) (sums : Sums) (bounds : Lengths) : Type 0 where
  pub reaction : pos bounds.reaction ≡ reaction_in first sums
  pub age : pos bounds.age ≡ age_in first sums
  pub reduced : pos bounds.reduced ≡ reduced_in first sums
  pub delay : pos bounds.delay ≡ delay_in sums
