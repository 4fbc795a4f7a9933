use Rattle.std.proofs.Common.{length, ap, arith}
use Rattle.cl_runs.specs.SystemOf.{system_of}
use Rattle.cl_runs.proofs.ModelSystem.{count_is}
use Rattle.cl_margin.proofs.TrialSteps.{none_first, one_more_cycle, cycle_more}
use Rattle.cl_margin.proofs.trial.cycles_of.Goals as goal

pub loop-task-init : goal.loop-task-init
loop-task-init c = record {
  as_many = ap length c.in_ok-cycles.ensures;
  each = none_first (system_of c.args.model.now) c.in_ok-cycles.cycles c.in_ok-cycles.ensures;
}

pub loop-task-preserved : goal.loop-task-preserved
loop-task-preserved c =
    let system = system_of c.args.model.now in
    let is = c.loop-task.invariant in
    record {
      as_many = one_more_cycle system c.loop-task.cycles c.push.new.self c.loop-task.task c.of.result is.as_many c.in_ok-push.ensures.ok;
      each = cycle_more system c.loop-task.cycles c.push.new.self c.loop-task.task c.of.result is.as_many c.in_ok-push.ensures.ok is.each c.of.ensures;
    }

pub returns : goal.returns
returns c = record {
  one_a_task = omega (
    arith,
    c.loop-task.invariant.as_many,
    c.loop-task-test.false,
    c.loop-task.auto.task-end,
    c.tasks-task-end.ensures.count,
    count_is c.args.model.now,
  );
  each = c.loop-task.invariant.each;
}
