use Rattle.std.proofs.Common.{◌≡◌, sym, ap, subst, ◌∙◌, arith, Ok}
use Rattle.cl_model.specs.declared.model.SystemModel.{SystemModel}
use Rattle.cl_edit.specs.{Changing.with_change, Edited.edited}
use Rattle.cl_incr.specs.SessionState.{SessionState}
use Rattle.cl_incr.proofs.{AskedSteps.asks_nothing, CheckedEdits.asks_changed}
use Rattle.cl_incr.proofs.session.Session.change.Goals as goal

pub returns-in_err-change-clause-steps : goal.returns-in_err-change-clause-steps
returns-in_err-change-clause-steps g c = λ changed is. asks_nothing c.args.self.now.model changed c.args.steps.now c.args.steps.now (omega arith)

pub returns-in_err-make-clause-steps : goal.returns-in_err-make-clause-steps
returns-in_err-make-clause-steps g c = λ changed is.
    let made : edited c.args.self.now.model c.args.edit.now ≡ Ok (with_change c.args.self.now.model c.in_ok-change.change)
    = subst (λ (m : SystemModel). edited m c.args.edit.now ≡ Ok (with_change m c.in_ok-change.change)) (ap (λ (s : SessionState). s.model) c.self.view_is) c.in_ok-change.ensures.made in
    asks_changed c.args.self.now.model c.args.edit.now (with_change c.args.self.now.model c.in_ok-change.change) changed
    c.args.steps.now c.make.new.steps made is c.make.ensures.steps

pub returns-clause-model : goal.returns-clause-model
returns-clause-model g c =
    let made : edited c.args.self.now.model c.args.edit.now ≡ Ok (with_change c.args.self.now.model c.in_ok-change.change)
    = subst (λ (m : SystemModel). edited m c.args.edit.now ≡ Ok (with_change m c.in_ok-change.change)) (ap (λ (s : SessionState). s.model) c.self.view_is) c.in_ok-change.ensures.made in
    made ∙ ap Ok (sym c.in_ok-make.ensures.model)

pub returns-clause-steps : goal.returns-clause-steps
returns-clause-steps g c = λ changed is.
    let made : edited c.args.self.now.model c.args.edit.now ≡ Ok (with_change c.args.self.now.model c.in_ok-change.change)
    = subst (λ (m : SystemModel). edited m c.args.edit.now ≡ Ok (with_change m c.in_ok-change.change)) (ap (λ (s : SessionState). s.model) c.self.view_is) c.in_ok-change.ensures.made in
    asks_changed c.args.self.now.model c.args.edit.now (with_change c.args.self.now.model c.in_ok-change.change) changed
    c.args.steps.now c.make.new.steps made is c.make.ensures.steps
