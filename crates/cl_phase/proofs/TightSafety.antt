-- Tight bounds are safe, and no greater than the sums of hops over the same timings.
use Rattle.std.proofs.Common.{◌<◌, List, [], ◌∷◌, length, map, arith}
use Rattle.std.specs.Prelude.{All}
use Rattle.cl_model.specs.{declared.group.Group.Group, Groups.no_group}
use Rattle.cl_runs.specs.TaskTiming.{System, IsSound}
use Rattle.cl_hop.specs.{Bounds.{Lengths, AreBoundsOf}, declared.group_timing.GroupTiming.GroupTiming, Timings.{IsTimingOf, AlwaysKeeps, IsGroupOfTask}, NoGreater.AreNoGreater, Promises.AreSafe}
use Rattle.cl_hop.proofs.ChainBounds.{AreAlwaysKept}
use Rattle.cl_phase.specs.TightBounds.{stops_of, slowest, last_write, tight_bounds}
use Rattle.cl_phase.proofs.{DelaySafety.delays_within, NoGreaterSums.no_greater_than_sums, SafeRuns.bounds_at_least, StopsOfGroups.{have_stops, are_steps_of}}

-- ---- safe

-- over any timings that always hold
safe_of_kept : (system : System) → IsSound system → (timing : Group → GroupTiming) (groups : List Group) → All (IsGroupOfTask system) groups
    → AreAlwaysKept system timing groups → AreSafe system groups (tight_bounds system timing groups)
unfolding tight_bounds
safe_of_kept system sound timing [] all keep run legal = record {
  reaction = λ chain complete. absurd (omega (arith, complete.some_group));
  age = λ chain complete. absurd (omega (arith, complete.links.some_group));
  reduced = λ chain complete. absurd (omega (arith, complete.links.some_group));
  delay = λ chain complete. absurd (omega (arith, complete.some_group));
}
safe_of_kept system sound timing (first ∷ later) all keep run legal =
    let have = have_stops system sound timing (first ∷ later) all (omega arith) in
    bounds_at_least system sound timing (first ∷ later) keep (stops_of system timing (first ∷ later)) have.of
    (slowest (stops_of system timing (first ∷ later))) have.are (last_write timing (first ∷ later)) run legal
    (delays_within system sound timing (first ∷ later) all keep run legal)

pub kept_safe : (system : System) → IsSound system → (timing : Group → GroupTiming) (groups : List Group)
    → All (λ (group : Group). AlwaysKeeps system group (timing group)) groups
    → AreSafe system groups (tight_bounds system timing groups)
kept_safe system sound timing groups keep =
    safe_of_kept system sound timing groups (λ place d h. (keep place d h).is_group) (λ place h. keep place no_group h)

-- ---- no greater

-- than the sums over the same timings
pub tight_within_sums : (system : System) → IsSound system → (timing : Group → GroupTiming) (groups : List Group) → All (IsGroupOfTask system) groups
    → All (λ (group : Group). IsTimingOf system group (timing group)) groups
    → 0 < length groups → (sums : Lengths) → AreBoundsOf (map timing groups) sums
    → AreNoGreater (tight_bounds system timing groups) sums
unfolding tight_bounds
tight_within_sums system sound timing groups all is some =
    let have = have_stops system sound timing groups all some in
    no_greater_than_sums system timing groups some (stops_of system timing groups) have.of (are_steps_of system sound timing groups all is)
    (slowest (stops_of system timing groups)) have.are
