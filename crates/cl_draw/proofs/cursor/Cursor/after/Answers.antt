use Rattle.std.proofs.Common.{length, ap, arith}
use Rattle.cl_draw.proofs.CursorFacts.{ranges_are, stands_in_next_place, stands_in_next_job}
use Rattle.cl_draw.proofs.cursor.Cursor.after.Goals as goal

pub returns-then-self-runnables-clause-stands : goal.returns-then-self-runnables-clause-stands
returns-then-self-runnables-clause-stands c = λ tick stands runs. stands_in_next_place c.args.of.model.now c.args.of.run.now c.args.of.task c.requires.of c.args.self c.at.result tick c.args.ticks stands
    (omega (arith, c.requires.within, c.if-ticks-self.false)) c.requires.in_table runs
    (omega (arith, c.if-self-runnables.true, ap length c.runnables-runnables.ensures, ranges_are c.args.of.model.now c.args.of.run.now c.args.of.task c.requires.of)) c.at.ensures.job c.at.ensures.place c.at.ensures.left

pub returns-else-self-runnables-clause-stands : goal.returns-else-self-runnables-clause-stands
returns-else-self-runnables-clause-stands c = λ tick stands runs. stands_in_next_job c.args.of.model.now c.args.of.run.now c.args.of.task c.requires.of c.args.self c.at-else-self-runnables.result tick c.args.ticks stands
    (omega (arith, c.requires.within, c.if-ticks-self.false)) c.requires.in_table runs
    (omega (arith, c.if-self-runnables.false, ap length c.runnables-runnables.ensures, ranges_are c.args.of.model.now c.args.of.run.now c.args.of.task c.requires.of))
    c.at-else-self-runnables.ensures.job c.at-else-self-runnables.ensures.place c.at-else-self-runnables.ensures.left

pub returns-else-self-runnables-clause-finishes : goal.returns-else-self-runnables-clause-finishes
returns-else-self-runnables-clause-finishes c = λ other. record {
  next_job = c.at-else-self-runnables.ensures.job;
  whole = omega (arith, c.requires.within, c.if-ticks-self.false);
  last = omega (arith, c.if-self-runnables.false, c.requires.is_runnable, ap length c.runnables-runnables.ensures, ranges_are c.args.of.model.now c.args.of.run.now c.args.of.task c.requires.of);
}
