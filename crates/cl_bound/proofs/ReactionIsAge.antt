-- The bound on the reaction of a chain of a system is its bound on the age.
use Rattle.std.proofs.Common.{◌≡◌, List, ap}
use Rattle.std.specs.Prelude.{nat_abs}
use Rattle.cl_model.specs.declared.group.Group.{Group}
use Rattle.cl_runs.specs.TaskTiming.{System}
use Rattle.cl_hop.proofs.ReactionIsAge.{reaction_is_age}
use Rattle.cl_bound.specs.Bounds.{settled_timings, bounds_of}

pub bound_on_reaction_is_on_age : (system : System) (groups : List Group) → (bounds_of system groups).reaction ≡ (bounds_of system groups).age
unfolding bounds_of
bound_on_reaction_is_on_age system groups = ap nat_abs (reaction_is_age (settled_timings system groups))
