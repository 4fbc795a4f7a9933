-- Groups that read no earlier and write no later, and bounds that are no greater.
use Rattle.std.specs.Prelude.{◌≡◌, ◌≤◌}
use Rattle.cl_hop.specs.{Bounds.Lengths, declared.group_timing.GroupTiming.GroupTiming}

-- a group is as another one, reads no earlier and writes no later
pub record StaysWithin (group other : GroupTiming) : Type 0 where
  pub task : group.task ≡ other.task
  pub core : group.core ≡ other.core
  pub priority : group.priority ≡ other.priority
  pub is_timed : group.is_timed ≡ other.is_timed
  pub jitter : group.jitter ≡ other.jitter
  pub distance : group.distance ≡ other.distance
  pub read : other.read ≤ group.read
  pub write : group.write ≤ other.write

-- none of the bounds is greater than that of its kind
pub record AreNoGreater (bounds other : Lengths) : Type 0 where
  pub reaction : bounds.reaction ≤ other.reaction
  pub age : bounds.age ≤ other.age
  pub reduced : bounds.reduced ≤ other.reduced
  pub delay : bounds.delay ≤ other.delay
