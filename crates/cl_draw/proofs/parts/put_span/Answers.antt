use Rattle.std.proofs.Common.{arith}
use Rattle.cl_runs.specs.SystemOf.{system_of}
use Rattle.cl_draw.proofs.WorkFacts.{further_in_span, past_span}
use Rattle.cl_draw.proofs.parts.put_span.Goals as goal

pub parts-init : goal.parts-init
parts-init c = record { after = omega arith; by = omega (arith, c.requires.some); at_from = c.requires.stands; cut = λ _. c.requires.cut }

pub parts-preserved : goal.parts-preserved
parts-preserved c = further_in_span (system_of c.args.of.model.now) c.args.of.run.now c.args.of.task c.args.span _ _ c.parts.from _ c.parts.invariant.after c.in_ok-from.ensures

pub parts-smaller : goal.parts-smaller
parts-smaller c = omega (arith, c.in_ok-from.ensures.after, c.in_ok-from.ensures.by)

pub returns : goal.returns
returns c = past_span (system_of c.args.of.model.now) c.args.of.run.now c.args.of.task c.args.span c.parts.work c.parts.cursor c.parts.from c.parts-test.false c.parts.invariant
