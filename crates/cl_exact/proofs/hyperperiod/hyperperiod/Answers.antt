use Rattle.std.proofs.Common.{◌+◌, sym, subst, arith}
use Rattle.cl_exact.specs.Inner.Periods.{IsLeastOfFirst}
use Rattle.cl_exact.proofs.PeriodFacts.{least_of_none, least_more, past_with_more}
use Rattle.cl_exact.proofs.hyperperiod.hyperperiod.Goals as goal

pub loop-beat-init : goal.loop-beat-init
loop-beat-init c = record { least = least_of_none c.args.beats.now; within = c.requires.some }

pub returns-in_err-hyperperiod : goal.returns-in_err-hyperperiod
returns-in_err-hyperperiod c =
    let lcm = c.in_err-hyperperiod.ensures.least in
    let past = past_with_more c.args.beats.now c.requires.beats c.loop-beat.beat-index c.loop-beat.hyperperiod c.args.limit lcm.0
    c.loop-beat-test.true c.loop-beat.invariant.least lcm.1 lcm.2 in
    (past.0, past.1, rw c.from_residual.ensures past.2)

pub loop-beat-preserved : goal.loop-beat-preserved
loop-beat-preserved c =
    let lcm = c.in_ok-hyperperiod.ensures.least in
    record {
      least = subst (IsLeastOfFirst c.args.beats.now (c.loop-beat.beat-index + 1)) (sym lcm.2.1)
          (least_more c.args.beats.now c.loop-beat.beat-index c.loop-beat.hyperperiod lcm.0 c.requires.beats c.loop-beat-test.true c.loop-beat.invariant.least lcm.1);
      within = omega (arith, lcm.2.0, lcm.2.1);
    }
