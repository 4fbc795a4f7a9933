use Rattle.std.proofs.Common.{refl, arith}
use Rattle.cl_draw.proofs.SpanFacts.{nothing_put, one_more_stretch, all_stretches}
use Rattle.cl_draw.proofs.spans.put_core.Goals as goal

pub loop-stretch-init : goal.loop-stretch-init
loop-stretch-init c = nothing_put c.args.stretches.now c.args.spans.now.items

pub loop-stretch-preserved : goal.loop-stretch-preserved
loop-stretch-preserved c = one_more_stretch c.args.stretches.now c.requires c.loop-stretch.stretch-index c.loop-stretch.from _ _ (omega arith) refl
    c.args.spans.now.items c.loop-stretch.spans.items c.put_span.new.spans.items c.loop-stretch.invariant c.in_ok-put_span.ensures

pub returns : goal.returns
returns c = all_stretches c.args.stretches.now c.requires c.loop-stretch.stretch-index c.loop-stretch.from c.args.spans.now.items c.loop-stretch.spans.items (omega arith) c.loop-stretch.invariant
