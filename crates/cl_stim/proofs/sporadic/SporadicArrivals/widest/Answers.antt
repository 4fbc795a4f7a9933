use Rattle.std.proofs.Common.{arith}
use Rattle.cl_stim.proofs.Widest.{sporadic_as_many, sporadic_reaches}
use Rattle.cl_stim.proofs.sporadic.SporadicArrivals.widest.Goals as goal

pub overflow_mul-result : goal.overflow_mul-result
overflow_mul-result c =
    let sporadic = c.self.inside in
    let reaches = sporadic_reaches c.args.self.now sporadic.least sporadic.greatest c.args.width c.most.result c.self.view_is c.self.invariant.0.0.0 c.most.ensures.most in
    omega (arith, reaches.1, c.requires, c.self.invariant.0.0.1)

pub returns-clause-no_narrower : goal.returns-clause-no_narrower
returns-clause-no_narrower c =
    let sporadic = c.self.inside in
    (sporadic_reaches c.args.self.now sporadic.least sporadic.greatest c.args.width c.most.result c.self.view_is c.self.invariant.0.0.0 c.most.ensures.most).0

pub returns-clause-as_many : goal.returns-clause-as_many
returns-clause-as_many c =
    let sporadic = c.self.inside in
    sporadic_as_many c.args.self.now sporadic.least sporadic.greatest c.args.width c.most.result c.self.view_is c.self.invariant.0.0.0 c.most.ensures.most
