-- The bounds on the reaction, the age, the reduced age and the delay of a chain, by the responses of its tasks.
use Rattle.std.specs.Prelude.{nat_abs, List, map}
use Rattle.cl_model.specs.declared.group.Group.{Group}
use Rattle.cl_runs.specs.TaskTiming.{System}
use Rattle.cl_hop.specs.{Bounds.{greatest_reaction, greatest_reduced, greatest_age, greatest_delay, Lengths}, Hops.group_timing, declared.group_timing.GroupTiming.GroupTiming}
use Rattle.cl_bound.specs.Answers.{answer_at, response_in, answers_of}

-- a group of a system, with the response that answers for its task
abbrev pub settled_timing : System → Group → GroupTiming
settled_timing system group = group_timing system (λ task. response_in (answer_at (answers_of system) task)) group

abbrev pub settled_timings : System → List Group → List GroupTiming
settled_timings system groups = map (settled_timing system) groups

-- the bounds of a chain of a system, none of whose tasks is late, as a function: none of the sums is negative, so their
-- absolute values are the sums themselves
unfoldable pub bounds_of : System → List Group → Lengths
bounds_of system groups = record {
  reaction = nat_abs (greatest_reaction (settled_timings system groups));
  age = nat_abs (greatest_age (settled_timings system groups));
  reduced = nat_abs (greatest_reduced (settled_timings system groups));
  delay = nat_abs (greatest_delay (settled_timings system groups));
}
