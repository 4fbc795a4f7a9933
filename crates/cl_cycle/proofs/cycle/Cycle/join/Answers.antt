use Rattle.cl_cycle.specs.Cycles.{phases_with}
use Rattle.cl_cycle.proofs.GatheredSteps.{gathered_with, gathered_without}
use Rattle.cl_cycle.proofs.cycle.Cycle.join.Goals as goal

pub returns-in-Some-clause-gathered : goal.returns-in-Some-clause-gathered
returns-in-Some-clause-gathered c system task so_far fixed gathered =
    gathered_with system task so_far c.args.other c.args.phase.now fixed c.args.self.now
    (record { in_phase = c.push.new.self; ticks = c.in-Some.together.ticks; arrivals = c.in-Some.together.arrivals })
    gathered c.push.ensures.items (c.in-Some.ensures.few (phases_with system task so_far) gathered.together)

pub returns-in_default-clause-gathered : goal.returns-in_default-clause-gathered
returns-in_default-clause-gathered c system task so_far fixed gathered =
    gathered_without system task so_far c.args.other c.args.phase.now fixed c.args.self.now gathered
    (c.in_default.ensures.many (phases_with system task so_far) gathered.together)
