use Rattle.std.proofs.Common.{arith}
use Rattle.cl_stim.proofs.Widest.{periodic_as_many, periodic_reaches}
use Rattle.cl_stim.proofs.periodic.PeriodicArrivals.widest.Goals as goal

pub overflow_mul-result : goal.overflow_mul-result
overflow_mul-result c =
    let periodic = c.self.inside in
    let reaches = periodic_reaches c.args.self.now periodic.period periodic.offset periodic.jitter c.args.width c.most.result c.self.view_is c.self.invariant.0.0.0 c.most.ensures.most in
    omega (arith, reaches.1, c.requires, c.self.invariant.0.0.1, c.self.invariant.0.2)

pub overflow_sub-result : goal.overflow_sub-result
overflow_sub-result c =
    let periodic = c.self.inside in
    let reaches = periodic_reaches c.args.self.now periodic.period periodic.offset periodic.jitter c.args.width c.most.result c.self.view_is c.self.invariant.0.0.0 c.most.ensures.most in
    omega (arith, reaches.0)

pub returns-clause-no_narrower : goal.returns-clause-no_narrower
returns-clause-no_narrower c =
    let periodic = c.self.inside in
    let reaches = periodic_reaches c.args.self.now periodic.period periodic.offset periodic.jitter c.args.width c.most.result c.self.view_is c.self.invariant.0.0.0 c.most.ensures.most in
    omega (arith, reaches.0)

pub returns-clause-as_many : goal.returns-clause-as_many
returns-clause-as_many c =
    let periodic = c.self.inside in
    periodic_as_many c.args.self.now periodic.period periodic.offset periodic.jitter c.args.width c.most.result c.self.view_is c.self.invariant.0.0.0 c.most.ensures.most
