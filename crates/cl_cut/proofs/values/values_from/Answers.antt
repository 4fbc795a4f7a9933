use Rattle.std.proofs.Common.{◌+◌, ◌-◌, length, take, drop, None, subst}
use Rattle.std.specs.Prelude.{slice_index, slice_index_or}
use Rattle.cl_runs.specs.SystemOf.{system_of}
use Rattle.cl_cut.specs.Values.{IsValue}
use Rattle.cl_cut.proofs.ValueFacts.{found_value, front_is_piece, one_more_value}
use Rattle.cl_cut.proofs.values.values_from.Goals as goal

pub loop-place-preserved : goal.loop-place-preserved
loop-place-preserved g c =
    let system = system_of c.args.model.now in
    let groups = c.args.groups.now in
    let first = c.args.first in
    let place = c.loop-place.place in
    let value = c.unwrap_or.result in
    let front = take (place + 1) (take (length groups - first) (drop first groups)) in
    let is_value : IsValue system front value =
    found_value system front (slice_index_or c.exact_reactions-exact.result place None)
    (slice_index c.reaction_bounds-bounds.result place) value (c.exact_reactions-exact.ensures.reactions place c.loop-place-test.true)
    (c.reaction_bounds-bounds.ensures.bounds place c.loop-place-test.true) c.unwrap_or.ensures in
    one_more_value system groups first c.loop-place.values.items c.push.new.self.items place value c.loop-place.invariant
    (subst (λ list. IsValue system list value) (front_is_piece groups first place c.loop-place-test.true) is_value) c.in_ok-push.ensures.items
