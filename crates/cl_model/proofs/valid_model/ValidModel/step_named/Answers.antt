use Rattle.std.proofs.Common.{sym, arith}
use Rattle.cl_model.proofs.StepFacts.{looked_up_within, looked_up_is, looked_up_stands}
use Rattle.cl_model.proofs.valid_model.ValidModel.step_named.Goals as goal

pub index-requires : goal.index-requires
index-requires c =
    omega (arith, looked_up_within c.self.inside.model c.self.inside.look_ups.steps c.self.invariant.look_ups.steps c.args.name.now c.in_ok-number.number (sym c.in_ok-number.ensures.found) (sym c.in_ok-number.ensures.number))

pub returns-clause-step : goal.returns-clause-step
returns-clause-step c =
    rw (← c.self.view_is) (looked_up_is c.self.inside.model c.self.inside.look_ups.steps c.self.invariant.look_ups.steps c.args.name.now c.in_ok-number.number (sym c.in_ok-number.ensures.found) (sym c.in_ok-number.ensures.number)
    c.index.result.now c.index.ensures)

pub returns-clause-within : goal.returns-clause-within
returns-clause-within c =
    rw (← c.self.view_is) (looked_up_stands c.self.inside.model c.self.inside.look_ups.steps c.self.invariant.look_ups.steps c.args.name.now c.in_ok-number.number (sym c.in_ok-number.ensures.found) (sym c.in_ok-number.ensures.number)
    c.index.result.now c.index.ensures)
