use Rattle.std.proofs.Common.{arith}
use Rattle.cl_edit.specs.Changing.{with_change}
use Rattle.cl_incr.proofs.AskedSteps.{asks_nothing}
use Rattle.cl_incr.proofs.session.Session.make.Goals as goal

pub returns-in_err-take_twin-clause-steps : goal.returns-in_err-take_twin-clause-steps
returns-in_err-take_twin-clause-steps g c =
    asks_nothing c.args.self.now.model (with_change c.args.self.now.model c.args.change.now) c.args.steps.now c.args.steps.now (omega arith)

pub returns-in_err-model-clause-steps : goal.returns-in_err-model-clause-steps
returns-in_err-model-clause-steps g c =
    asks_nothing c.args.self.now.model (with_change c.args.self.now.model c.args.change.now) c.args.steps.now c.args.steps.now (omega arith)
