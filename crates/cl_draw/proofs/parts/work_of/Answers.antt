use Rattle.std.proofs.Common.{refl, arith}
use Rattle.cl_draw.proofs.{PartFacts.{all_parts, all_finishes}, WorkFacts.{walk_begins, at_span, cut_at_span, span_some, span_within, span_runs, walk_on, walk_ends}}
use Rattle.cl_draw.proofs.parts.work_of.Goals as goal

pub loop-span-init : goal.loop-span-init
loop-span-init c = walk_begins c.args.of.model.now c.args.of.run.now c.args.of.task c.requires.of c.args.spans.now c.requires.spans _ c.start-cursor.result c.new.ensures c.new-2.ensures c.start-cursor.ensures.first c.start-cursor.ensures.stands

pub put_span-requires-clause-stands : goal.put_span-requires-clause-stands
put_span-requires-clause-stands c = at_span c.args.of.model.now c.args.of.run.now c.args.of.task c.requires.of c.args.spans.now c.requires.spans c.loop-span.span-index _ _ (omega arith) refl c.loop-span.work c.loop-span.cursor c.loop-span.invariant

pub put_span-requires-clause-cut : goal.put_span-requires-clause-cut
put_span-requires-clause-cut c = cut_at_span c.args.of.model.now c.args.of.run.now c.args.of.task c.requires.of c.args.spans.now c.requires.spans c.loop-span.span-index _ _ (omega arith) refl c.loop-span.work c.loop-span.cursor c.loop-span.invariant

pub put_span-requires-clause-some : goal.put_span-requires-clause-some
put_span-requires-clause-some c = span_some c.args.of.model.now c.args.of.run.now c.args.of.task c.requires.of c.args.spans.now c.requires.spans c.loop-span.span-index _ _ (omega arith) refl c.loop-span.work c.loop-span.cursor c.loop-span.invariant

pub put_span-requires-clause-by_end : goal.put_span-requires-clause-by_end
put_span-requires-clause-by_end c = span_within c.args.of.model.now c.args.of.run.now c.args.of.task c.requires.of c.args.spans.now c.requires.spans c.loop-span.span-index _ _ (omega arith) refl c.loop-span.work c.loop-span.cursor c.loop-span.invariant

pub put_span-requires-clause-runs : goal.put_span-requires-clause-runs
put_span-requires-clause-runs c = span_runs c.args.of.model.now c.args.of.run.now c.args.of.task c.requires.of c.args.spans.now c.requires.spans c.loop-span.span-index _ _ (omega arith) refl c.loop-span.work c.loop-span.cursor c.loop-span.invariant

pub loop-span-preserved : goal.loop-span-preserved
loop-span-preserved c = walk_on c.args.of.model.now c.args.of.run.now c.args.of.task c.requires.of c.args.spans.now c.requires.spans c.loop-span.span-index _ _ (omega arith) refl c.loop-span.work c.loop-span.cursor c.loop-span.invariant _ _ c.in_ok-put_span.ensures

pub returns-clause-parts : goal.returns-clause-parts
returns-clause-parts c = all_parts c.args.of.model.now c.args.of.run.now c.args.of.task c.requires.of c.loop-span.work c.loop-span.cursor
    (walk_ends c.args.of.model.now c.args.of.run.now c.args.of.task c.requires.of c.args.spans.now c.requires.spans c.loop-span.span-index c.loop-span.work c.loop-span.cursor (omega arith) c.loop-span.invariant)

pub returns-clause-finishes : goal.returns-clause-finishes
returns-clause-finishes c = all_finishes c.args.of.model.now c.args.of.run.now c.args.of.task c.requires.of c.loop-span.work c.loop-span.cursor
    (walk_ends c.args.of.model.now c.args.of.run.now c.args.of.task c.requires.of c.args.spans.now c.requires.spans c.loop-span.span-index c.loop-span.work c.loop-span.cursor (omega arith) c.loop-span.invariant)
