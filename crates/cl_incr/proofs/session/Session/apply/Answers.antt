use Rattle.std.proofs.Common.{subst, arith}
use Rattle.cl_model.specs.Validity.{IsValid}
use Rattle.cl_incr.proofs.{AskedSteps.asks_nothing, Reports.same_model}
use Rattle.cl_incr.proofs.session.Session.apply.Goals as goal

pub returns-in-Report-clause-model : goal.returns-in-Report-clause-model
returns-in-Report-clause-model g c =
    same_model c.args.self.now.model c.args.edit.now (subst IsValid c.model.ensures c.plain-plain.ensures.valid) c.in-Report.is

pub returns-in-Report-clause-steps : goal.returns-in-Report-clause-steps
returns-in-Report-clause-steps g c = λ changed is. asks_nothing c.args.self.now.model changed c.args.steps.now c.args.steps.now (omega arith)
