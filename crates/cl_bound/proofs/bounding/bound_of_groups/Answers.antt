use Rattle.std.proofs.lemmas.List.Elements.{All-drop}
use Rattle.cl_model.specs.Groups.{IsGroupOf, no_group}
use Rattle.cl_runs.specs.SystemOf.{system_of}
use Rattle.cl_runs.proofs.ModelSystem.{system_sound}
use Rattle.cl_bound.proofs.{BoundSums.{rest_is, is_settled, have_bounds, bounds_are}, SettledChains.{only_bounds, settled_safe}}
use Rattle.cl_bound.proofs.bounding.bound_of_groups.Goals as goal

pub sums_along-requires-clause-of_tasks : goal.sums_along-requires-clause-of_tasks
sums_along-requires-clause-of_tasks g c = rw (rest_is c.args.groups.now) (All-drop (IsGroupOf c.args.model.now) 1 c.args.groups.now c.requires.of_tasks)

pub bounds-requires-clause-bounds : goal.bounds-requires-clause-bounds
unfolding no_group
bounds-requires-clause-bounds g c =
    rw (c.sums_along.ensures.sums, rest_is c.args.groups.now, c.timing_of-first.ensures.timing)
    (have_bounds c.args.model.now c.timing_of-first.ensures.valid c.args.groups.now c.requires.some c.requires.few c.requires.of_tasks
    (rw c.requires.answers at c.requires.not_late))

pub returns-clause-sums : goal.returns-clause-sums
unfolding no_group
returns-clause-sums g c =
    bounds_are c.args.model.now c.timing_of-first.ensures.valid c.args.groups.now c.requires.some c.requires.few c.requires.of_tasks
    (rw c.requires.answers at c.requires.not_late) c.bounds.result
    (rw (c.sums_along.ensures.sums, rest_is c.args.groups.now, c.timing_of-first.ensures.timing) at c.bounds.ensures)

pub returns-clause-bounds : goal.returns-clause-bounds
returns-clause-bounds g c = only_bounds (system_of c.args.model.now) c.args.groups.now c.bounds.result (returns-clause-sums g c)

pub returns-clause-safe : goal.returns-clause-safe
returns-clause-safe g c =
    rw (returns-clause-bounds g c)
    (settled_safe (system_of c.args.model.now) (system_sound c.args.model.now c.timing_of-first.ensures.valid) c.args.groups.now
    (is_settled c.args.model.now c.timing_of-first.ensures.valid c.args.groups.now c.requires.some c.requires.few c.requires.of_tasks
    (rw c.requires.answers at c.requires.not_late)))
