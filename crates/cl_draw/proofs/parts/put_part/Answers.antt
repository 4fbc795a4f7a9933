use Rattle.std.proofs.Common.{◌≡◌, ℕ, ◌+◌, ◌-◌, arith, subst}
use Rattle.cl_runs.specs.SystemOf.{system_of}
use Rattle.cl_draw.specs.Inner.Cursors.{StandsAt}
use Rattle.cl_draw.proofs.{CursorFacts.{ranges_are, going_where_it_runs, runs_over}, PartFacts.{end_of_part, further_by}}
use Rattle.cl_draw.proofs.parts.put_part.Goals as goal

pub due_of-requires-clause-in_table : goal.due_of-requires-clause-in_table
due_of-requires-clause-in_table c = going_where_it_runs c.args.of.model.now c.args.of.run.now c.args.of.task c.requires.of c.args.cursor.now c.args.from c.requires.stands.stands (omega (arith, c.requires.some, c.requires.by_end)) (c.requires.runs c.args.from (omega arith) c.requires.some)

pub after-next-requires-clause-some : goal.after-next-requires-clause-some
after-next-requires-clause-some c =
    let in_table = going_where_it_runs c.args.of.model.now c.args.of.run.now c.args.of.task c.requires.of c.args.cursor.now c.args.from c.requires.stands.stands (omega (arith, c.requires.some, c.requires.by_end)) (c.requires.runs c.args.from (omega arith) c.requires.some) in
    let ends = end_of_part c.args.of.model.now c.args.of.run.now c.args.of.task c.requires.of c.args.cursor.now c.due_of.result c.args.from c.args.end c.part_end-to.result
    c.due_of.ensures c.part_end-to.ensures (c.requires.stands.stands.going in_table).1 c.requires.some (omega (arith, c.ranges.end.fits)) in
    omega (arith, ends.after)

pub after-next-requires-clause-within : goal.after-next-requires-clause-within
after-next-requires-clause-within c =
    let in_table = going_where_it_runs c.args.of.model.now c.args.of.run.now c.args.of.task c.requires.of c.args.cursor.now c.args.from c.requires.stands.stands (omega (arith, c.requires.some, c.requires.by_end)) (c.requires.runs c.args.from (omega arith) c.requires.some) in
    let ends = end_of_part c.args.of.model.now c.args.of.run.now c.args.of.task c.requires.of c.args.cursor.now c.due_of.result c.args.from c.args.end c.part_end-to.result
    c.due_of.ensures c.part_end-to.ensures (c.requires.stands.stands.going in_table).1 c.requires.some (omega (arith, c.ranges.end.fits)) in
    omega (arith, ends.after, ends.most)

pub after-next-requires-clause-in_table : goal.after-next-requires-clause-in_table
after-next-requires-clause-in_table c = going_where_it_runs c.args.of.model.now c.args.of.run.now c.args.of.task c.requires.of c.args.cursor.now c.args.from c.requires.stands.stands (omega (arith, c.requires.some, c.requires.by_end)) (c.requires.runs c.args.from (omega arith) c.requires.some)

pub after-next-requires-clause-is_runnable : goal.after-next-requires-clause-is_runnable
after-next-requires-clause-is_runnable c =
    let in_table = going_where_it_runs c.args.of.model.now c.args.of.run.now c.args.of.task c.requires.of c.args.cursor.now c.args.from c.requires.stands.stands (omega (arith, c.requires.some, c.requires.by_end)) (c.requires.runs c.args.from (omega arith) c.requires.some) in
    omega (arith, (c.requires.stands.stands.going in_table).0, ranges_are c.args.of.model.now c.args.of.run.now c.args.of.task c.requires.of)

pub returns : goal.returns
returns c =
    let in_table = going_where_it_runs c.args.of.model.now c.args.of.run.now c.args.of.task c.requires.of c.args.cursor.now c.args.from c.requires.stands.stands (omega (arith, c.requires.some, c.requires.by_end)) (c.requires.runs c.args.from (omega arith) c.requires.some) in
    let ends = end_of_part c.args.of.model.now c.args.of.run.now c.args.of.task c.requires.of c.args.cursor.now c.due_of.result c.args.from c.args.end c.part_end-to.result
    c.due_of.ensures c.part_end-to.ensures (c.requires.stands.stands.going in_table).1 c.requires.some (omega (arith, c.ranges.end.fits)) in
    let to = c.part_end-to.result in
    let same : c.args.from + (to - c.args.from) ≡ to = omega (arith, ends.after) in
    let stands = subst (λ (t : ℕ). StandsAt (system_of c.args.of.model.now) c.args.of.run.now c.args.of.task c.after-next.result t) same (c.after-next.ensures.stands c.args.from c.requires.stands.stands
    (runs_over c.args.of.model.now c.args.of.run.now c.args.of.task c.requires.of c.args.from to (omega (arith, ends.after)) (omega (arith, ends.by, c.requires.by_end))
    (λ t after before. c.requires.runs t after (omega (arith, before, ends.by))))) in
    further_by c.args.of.model.now c.args.of.run.now c.args.of.task c.requires.of c.args.work.now c.args.cursor.now c.after-next.result c.args.from to c.args.end c.requires.stands c.requires.cut
    in_table c.requires.by_end c.requires.runs ends stands c.after-next.ensures.finishes c.after-next.ensures.cut
    _ c.in_ok-push.ensures.ok c.finish_between.result c.finish_between.ensures c.in_ok-keep.ensures
