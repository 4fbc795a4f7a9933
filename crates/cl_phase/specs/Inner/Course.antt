-- The groups of a chain as code puts them together, from what is known of each. Times are in ticks.
use Rattle.std.specs.Prelude.{◌≡◌, ℤ, pos, List, [], ◌∷◌, map}
use Rattle.cl_model.specs.declared.group.Group.{Group}
use Rattle.cl_runs.specs.TaskTiming.{System}
use Rattle.cl_hop.specs.{Hops.lag, declared.group_timing.GroupTiming.GroupTiming}
use Rattle.cl_phase.specs.{declared.course.Course.Course, TightBounds.{stops_of, span_of, last_write}, Inner.{Ranges.{AreStopsInRange, AreEndsInRange}, Longest.span_between, Keeping.AreKeptIn}}

-- the lag from the first of some groups to the next one, 0 where there is none
abbrev pub first_lag : (timings : List GroupTiming) → ℤ
first_lag [] = pos 0
first_lag (timing ∷ []) = pos 0
first_lag (timing ∷ next ∷ later) = lag timing next

-- the groups of a chain, which phases they keep, and the read of the first and the write of the last
pub record IsCourseOf (system : System) (groups : List Group) (timings : List GroupTiming) (course : Course) : Type 0 where
  pub stops_are : (timing : Group → GroupTiming) → timings ≡ map timing groups → course.stops.items ≡ stops_of system timing groups
  pub in_range : AreStopsInRange course.stops.items
  pub kept : AreKeptIn course.stops.items course.keeping
  pub span_is : (timing : Group → GroupTiming) → timings ≡ map timing groups → span_between course.ends ≡ span_of timing groups
  pub write_is : (timing : Group → GroupTiming) → timings ≡ map timing groups → course.ends.write ≡ last_write timing groups
  pub ends_in_range : AreEndsInRange course.ends
