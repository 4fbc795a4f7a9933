use Rattle.std.proofs.Common.{arith, subst}
use Rattle.cl_runs.proofs.ModelSystem.{count_is, cores_are, system_sound}
use Rattle.cl_draw.specs.Inner.Spans.{AreEmpty}
use Rattle.cl_draw.proofs.SpansOfRun.{none_up_to, one_more_core}
use Rattle.cl_draw.proofs.spans.spans_of.Goals as goal

pub stretches-requires : goal.stretches-requires
stretches-requires c = omega (arith, c.loop-core-test.true, c.loop-core.auto.core-end, c.cores-core-end.ensures.count, c.requires.cores, cores_are c.args.model.now)

pub put_core-requires : goal.put_core-requires
put_core-requires c = c.stretches.ensures.longest

pub loop-core-init : goal.loop-core-init
loop-core-init c = none_up_to c.args.model.now c.args.run.now _ (subst (λ n. AreEmpty n c.in_ok-spans.spans.items) c.tasks.ensures.count c.in_ok-spans.ensures)

pub loop-core-preserved : goal.loop-core-preserved
loop-core-preserved c = one_more_core c.args.model.now c.args.run.now c.requires c.loop-core.core
    (omega (arith, c.loop-core-test.true, c.loop-core.auto.core-end, c.cores-core-end.ensures.count))
    c.stretches.result.now c.stretches.ensures _ _ c.loop-core.invariant c.in_ok-put_core.ensures

pub returns-clause-count : goal.returns-clause-count
returns-clause-count c = c.loop-core.invariant.count

pub returns-clause-spans : goal.returns-clause-spans
returns-clause-spans c = λ task known. c.loop-core.invariant.put task known
    (omega (
      arith,
      ((system_sound c.args.model.now c.tasks.ensures.valid).tasks task (omega (arith, known, count_is c.args.model.now))).on_core,
      cores_are c.args.model.now,
      c.loop-core-test.false,
      c.loop-core.auto.core-end,
      c.cores-core-end.ensures.count,
    ))
