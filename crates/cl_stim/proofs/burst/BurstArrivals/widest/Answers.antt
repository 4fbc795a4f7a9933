use Rattle.cl_stim.proofs.Widest.{burst_few, burst_all}
use Rattle.cl_stim.proofs.burst.BurstArrivals.widest.Goals as goal

pub returns-then-released-self-clause-as_many : goal.returns-then-released-self-clause-as_many
returns-then-released-self-clause-as_many c =
    let burst = c.self.inside in
    burst_few c.args.self.now burst.period burst.offset burst.count burst.distance c.args.width c.div_ceil-released.result c.self.view_is
    c.self.invariant.0.3.0 c.self.invariant.1.1 c.div_ceil-released.ensures c.if-released-self.true

pub returns-else-released-self-clause-as_many : goal.returns-else-released-self-clause-as_many
returns-else-released-self-clause-as_many c =
    let burst = c.self.inside in
    burst_all c.args.self.now burst.period burst.offset burst.count burst.distance c.args.width c.div_ceil-released.result c.self.view_is
    c.self.invariant.0.3.0 c.self.invariant.1.1 c.div_ceil-released.ensures c.self.invariant.0.0.0 c.if-released-self.false
