-- Where bounds are exact.
use Rattle.std.specs.Prelude.{◌≡◌}
use Rattle.cl_model.specs.declared.group.Group.{Group}
use Rattle.cl_runs.specs.TaskTiming.{System, timing_at}
use Rattle.cl_hop.specs.{Bounds.Lengths, Timings.IsTimingOf, declared.group_timing.GroupTiming.GroupTiming}
use Rattle.cl_exact.specs.ExactLengths.{Witnesses}

-- the bounds of a chain are its exact lengths
pub record AreLengthsOf (bounds : Lengths) (exact : Witnesses) : Type 0 where
  pub reaction : bounds.reaction ≡ exact.reaction.length
  pub age : bounds.age ≡ exact.age.length
  pub reduced : bounds.reduced ≡ exact.reduced.length

-- a timing of a group says that its jobs read at their arrivals and write at their deadlines, as timed ones do
pub record IsTimedTiming (system : System) (group : Group) (timing : GroupTiming) : Type 0 where
  pub of_group : IsTimingOf system group timing
  pub read : timing.read ≡ 0
  pub write : timing.write ≡ (timing_at system group.task).deadline
