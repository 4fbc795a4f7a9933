-- The window of a group whose task has a response that holds its greatest execution time and is within its deadline:
-- it reads before its greatest distance is over, and before it writes.
use Rattle.std.proofs.Common.{◌≡◌, ℕ, ◌+◌, ◌<◌, ◌≤◌, List, [], ◌∷◌, length, drop, arith}
use Rattle.std.specs.Prelude.{sum_by, slice_index_or, All}
use Rattle.std.proofs.Math.Numerals.{add-one}
use Rattle.std.proofs.lemmas.List.Elements.{All-head, All-tail}
use Rattle.std.proofs.lemmas.List.Sums.{sum_by-cons, sum_by-take-drop, sum_by-drop_more}
use Rattle.cl_model.specs.{declared.{limits.TheConstants.MOST_TICKS, group.Group.Group, task.AccessKind.{AccessKind, TheVariants.{Explicit, Implicit, Timed}}}, Timing.{greatest_distance, greatest_jitter}}
use Rattle.cl_runs.specs.{TaskTiming.{TimeRange, Timing, System, timing_at, no_range, IsSound}, ExecutionTimes.greatest_execution}
use Rattle.cl_runs.proofs.{PatternFacts.distances_ordered, Work.sum_take_mono}
use Rattle.cl_comm.specs.{declared.spot.Spot.Spot, Windows.{least_times, spot_at, window_of}}
use Rattle.cl_comm.proofs.AccessTimes.{windows_end_by_the_deadline}
use Rattle.cl_hop.specs.{Hops.{group_timing, IsNear}, declared.group_timing.GroupTiming.GroupTiming, Timings.IsGroupOfTask}

abbrev IsOrdered : TimeRange → Type 0
IsOrdered range = (1 ≤ range.least) × (range.least ≤ range.greatest)

-- the least times take no longer than the greatest
least_below_greatest : (ranges : List TimeRange) → All IsOrdered ranges → least_times ranges ≤ sum_by (λ (range : TimeRange). range.greatest) ranges
unfolding least_times
least_below_greatest [] ordered = omega arith
least_below_greatest (range ∷ ranges) ordered = omega (
  arith,
  (All-head IsOrdered range ranges ordered).1,
  least_below_greatest ranges (All-tail IsOrdered range ranges ordered),
  sum_by-cons (λ (r : TimeRange). r.least) range ranges,
  sum_by-cons (λ (r : TimeRange). r.greatest) range ranges,
)

-- the parts of a spot are all of its task's least times
spot_parts : (task : Timing) (p : ℕ) → p < length task.ranges
    → (spot_at task p).before + (spot_at task p).own + (spot_at task p).after ≡ least_times task.ranges
unfolding spot_at least_times no_range
spot_parts task p h =
    let here : sum_by (λ (r : TimeRange). r.least) (drop p task.ranges) ≡ (slice_index_or task.ranges p no_range).least + sum_by (λ (r : TimeRange). r.least) (drop (p + 1) task.ranges)
    = sum_by-drop_more (λ (r : TimeRange). r.least) task.ranges p no_range h in
    omega (arith, sum_by-take-drop (λ (r : TimeRange). r.least) task.ranges p, rw add-one at here)

-- a runnable begins before a runnable at or after it ends
begins_before_end : (task : Timing) (p q : ℕ) → p ≤ q → 1 ≤ (slice_index_or task.ranges q no_range).least
    → (spot_at task p).before < (spot_at task q).before + (spot_at task q).own
unfolding spot_at least_times no_range
begins_before_end task p q h own = omega (arith, own, sum_take_mono (λ (r : TimeRange). r.least) task.ranges p q h)

-- the least times of a task fit into a response that holds the greatest
pub spot_fits : (system : System) → IsSound system → (i p response : ℕ) → i < length system.tasks → greatest_execution (timing_at system i) ≤ response
    → p < length (timing_at system i).ranges
    → (spot_at (timing_at system i) p).before + (spot_at (timing_at system i) p).own + (spot_at (timing_at system i) p).after ≤ response
unfolding greatest_execution
spot_fits system sound i p response is_task holds is = omega (
  arith,
  holds,
  spot_parts (timing_at system i) p is,
  least_below_greatest (timing_at system i).ranges (sound.tasks i is_task).times,
)

-- and what is within the task's deadline is within that of each of its spots
pub spot_in_time : (system : System) (i p response : ℕ) → response ≤ (timing_at system i).deadline → response ≤ (spot_at (timing_at system i) p).deadline
unfolding spot_at
spot_in_time system i p response in_time = in_time

-- the spots of a runnable and of one at or after it
record AreSpots (first last : Spot) (response distance : ℕ) : Type 0 where
  behind : first.before < last.before + last.own
  fits : last.before + last.own + last.after ≤ response
  in_time : response ≤ last.deadline
  apart : last.deadline ≤ distance

read_first : (access : AccessKind) (first last : Spot) (response distance : ℕ) → AreSpots first last response distance
    → ((window_of access first response).rlo < distance) × ((window_of access first response).rlo < (window_of access last response).whi)
read_first Explicit first last response distance spots =
    (omega (arith, spots.behind, spots.fits, spots.in_time, spots.apart), omega (arith, spots.behind, spots.fits))
read_first Implicit first last response distance spots =
    (omega (arith, spots.behind, spots.fits, spots.in_time, spots.apart), omega (arith, spots.behind, spots.fits))
read_first Timed first last response distance spots =
    (omega (arith, spots.behind, spots.fits, spots.in_time, spots.apart), omega (arith, spots.behind, spots.fits, spots.in_time))

-- the jitter of a task is at most its greatest distance
pub jitter_within : (system : System) → IsSound system → (i : ℕ) → i < length system.tasks
    → greatest_jitter (timing_at system i).pattern ≤ greatest_distance (timing_at system i).pattern
jitter_within system sound i is =
    let task_sound = sound.tasks i is in
    omega (arith, task_sound.above_jitter, task_sound.within_distance, distances_ordered (timing_at system i).pattern task_sound.pattern)

-- a group that reads before its distance is over and before it writes, writes by the end of its distance, and whose
-- jitter is less than that
pub record IsProper (group : GroupTiming) : Type 0 where
  pub read_before_next : group.read < group.distance
  pub read_before_write : group.read < group.write
  pub write_by_next : group.write ≤ group.distance
  pub jitter_before_next : group.jitter < group.distance

-- that of a group with such a response is one
pub group_proper : (system : System) → IsSound system → (responses : ℕ → ℕ) (group : Group) → IsGroupOfTask system group
    → greatest_execution (timing_at system group.task) ≤ responses group.task → responses group.task ≤ (timing_at system group.task).deadline
    → IsProper (group_timing system responses group)
unfolding group_timing spot_at no_range
group_proper system sound responses group is holds by_deadline =
    let task = timing_at system group.task in
    let task_sound = sound.tasks group.task is.is_task in
    let own = (task_sound.times group.last no_range is.is_runnable).0 in
    let apart : task.deadline ≤ greatest_distance task.pattern = omega (arith, task_sound.within_distance, distances_ordered task.pattern task_sound.pattern) in
    let spots : AreSpots (spot_at task group.first) (spot_at task group.last) (responses group.task) (greatest_distance task.pattern) = record {
      behind = begins_before_end task group.first group.last is.ordered own;
      fits = spot_fits system sound group.task group.last (responses group.task) is.is_task holds is.is_runnable;
      in_time = by_deadline;
      apart = apart;
    } in
    let (next, write) = read_first task.access (spot_at task group.first) (spot_at task group.last) (responses group.task) (greatest_distance task.pattern) spots in
    record {
      read_before_next = next;
      read_before_write = write;
      write_by_next = omega (arith, apart, windows_end_by_the_deadline task.access (spot_at task group.last) (responses group.task) spots.fits spots.in_time);
      jitter_before_next = omega (arith, task_sound.above_jitter, apart);
    }

-- its numbers are at most its greatest distance
pub proper_near : (group : GroupTiming) → IsProper group → group.distance ≤ MOST_TICKS → IsNear group
proper_near group proper distance = record {
  jitter = omega (arith, proper.jitter_before_next, distance);
  distance = distance;
  read = omega (arith, proper.read_before_next, distance);
  write = omega (arith, proper.write_by_next, distance);
}
