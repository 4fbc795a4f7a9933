use Rattle.cl_check.proofs.WalkFacts.{ends_later, tick_found, passed, nothing_found}
use Rattle.cl_check.proofs.walk.Walk.seek.Goals as goal

pub tick_in-requires-clause-after : goal.tick_in-requires-clause-after
tick_in-requires-clause-after c = ends_later c.args.stretches.now c.requires.longest c.args.task c.loop-self.self c.loop-self.invariant.0 _ c.loop-self-test.true

pub returns-in-Some-clause-tick : goal.returns-in-Some-clause-tick
returns-in-Some-clause-tick c = tick_found c.args.stretches.now c.requires.longest c.args.task c.loop-self.self c.loop-self.invariant.0 _ c.loop-self-test.true
    c.args.work c.in-Some.tick c.loop-self.invariant.1 c.in-Some.ensures.0 c.in-Some.ensures.1 c.in-Some.ensures.2

pub pass-requires-clause-after : goal.pass-requires-clause-after
pass-requires-clause-after c = ends_later c.args.stretches.now c.requires.longest c.args.task c.loop-self.self c.loop-self.invariant.0 _ c.loop-self-test.true

pub loop-self-preserved : goal.loop-self-preserved
loop-self-preserved c =
    rw c.pass.ensures (passed c.args.stretches.now c.requires.longest c.args.task c.loop-self.self c.loop-self.invariant.0 _ c.loop-self-test.true, c.in_default.ensures)

pub returns-clause-tick : goal.returns-clause-tick
returns-clause-tick c =
    nothing_found c.args.stretches.now c.requires.longest c.args.task c.loop-self.self c.loop-self.invariant.0 c.loop-self-test.false c.args.work c.loop-self.invariant.1
