use Rattle.std.proofs.Common.{◌≡◌, ◌*◌, ℤ, pos, length, to_z, of_z, w64, ap, sym, ◌∙◌, arith}
use Rattle.std.proofs.lemmas.Int.{ints}
use Rattle.std.proofs.lemmas.List.FromFn.{length-map-range_with_len}
use Rattle.std.proofs.lemmas.Result.{IfOk-weaker}
use Rattle.cl_runs.specs.SystemOf.{system_of}
use Rattle.cl_phase.specs.{TightBounds.{stops_of, span_of, last_write, slowest, hyperperiod_in}, Inner.Longest.span_between}
use Rattle.cl_phase.proofs.{ShownWalks.start_is_there, WholeWalks.{all_ok, moves_few, some_hyperperiod, moved_walk}}
use Rattle.cl_phase.proofs.whole.whole_walk.Goals as goal

-- a number as code holds it
abbrev passed : ℤ → ℤ
passed z = to_z w64 (of_z w64 z)

pub from-requires-clause-ticks : goal.from-requires-clause-ticks
from-requires-clause-ticks c =
    let course = c.course_of-course.ensures.course in
    let steady = c.all_steady_from-steady.ensures.near in
    let least = c.least_arrival.ensures.near in
    let short = course.kept.short in
    let some = some_hyperperiod c.course_of-course.result.stops.items course.in_range in
    let moved = c.turns_to_reach-moved.ensures.least (omega (arith, some, course.kept.hyperperiod)) (omega (arith, ints, short))
    (omega (arith, ints, steady, least, short)) in
    let few = moves_few moved (omega (arith, ints, least), omega (arith, ints, least))
    (omega (arith, ints, steady), omega (arith, ints, steady)) short in
    (omega (arith, ints, few), omega (arith, ints, few))

pub returns-clause-walk : goal.returns-clause-walk
returns-clause-walk c = all_ok c.from.result _ _ _ _ (λ walk kept missed taken timing are.
    let course = c.course_of-course.ensures.course in
    let value = c.as_slice-stops.ensures.value in
    let stops = c.as_slice-stops.result.now in
    let system = system_of c.args.model.now in
    let groups = c.args.groups.now in
    let all = stops_of system timing groups in
    let ends = c.course_of-course.result.ends in
    let hyperperiod = c.course_of-course.result.keeping.hyperperiod in
    let start = c.start_of-start in
    let turns = c.turns_to_reach-moved in
    let steady = c.all_steady_from-steady.ensures.near in
    let least = c.least_arrival.ensures.near in
    let short = course.kept.short in
    let some = some_hyperperiod c.course_of-course.result.stops.items course.in_range in
    let moved = turns.ensures.least (omega (arith, some, course.kept.hyperperiod)) (omega (arith, ints, short)) (omega (arith, ints, steady, least, short)) in
    let few = moves_few moved (omega (arith, ints, least), omega (arith, ints, least))
    (omega (arith, ints, steady), omega (arith, ints, steady)) short in
    let stops_are = value ∙ course.stops_are timing are in
    let ticks_are = course.kept.hyperperiod ∙ ap hyperperiod_in (sym value) in
    let begins : passed start.result ≡ start.result = omega (arith, ints, start.ensures.near) in
    let same : passed turns.result ≡ turns.result = omega (arith, ints, few) in
    moved_walk stops all c.args.kind c.slowest-place.result (passed start.result) _ (passed turns.result) moved.turns walk
    stops_are (c.slowest-place.ensures.slowest ∙ ap slowest stops_are)
    (begins ∙ start.ensures.start
    ∙ start_is_there c.args.kind stops all (span_between ends) (span_of timing groups) ends.write (last_write timing groups) c.slowest-place.result
    hyperperiod c.args.bound stops_are (course.span_is timing are) (course.write_is timing are) c.slowest-place.ensures.slowest ticks_are)
    (same ∙ moved.are ∙ ap (λ n. pos (moved.turns * n)) (ticks_are ∙ ap hyperperiod_in stops_are))
    kept missed taken)
    c.from.ensures.kept c.from.ensures.missed c.from.ensures.taken

pub returns-clause-kept : goal.returns-clause-kept
returns-clause-kept c =
    IfOk-weaker c.from.result _ _
    (λ walk is. ap length is ∙ length-map-range_with_len _ 0 _ ∙ ap length c.as_slice-stops.ensures.value ∙ c.course_of-course.ensures.as_many)
    c.from.ensures.kept

pub returns-clause-missed : goal.returns-clause-missed
returns-clause-missed c =
    IfOk-weaker c.from.result _ _
    (λ walk is. ap length is ∙ length-map-range_with_len _ 0 _ ∙ ap length c.as_slice-stops.ensures.value ∙ c.course_of-course.ensures.as_many)
    c.from.ensures.missed

pub returns-clause-taken : goal.returns-clause-taken
returns-clause-taken c =
    IfOk-weaker c.from.result _ _
    (λ walk is. ap length is ∙ length-map-range_with_len _ 0 _ ∙ ap length c.as_slice-stops.ensures.value ∙ c.course_of-course.ensures.as_many)
    c.from.ensures.taken
