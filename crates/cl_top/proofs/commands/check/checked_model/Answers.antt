use Rattle.std.proofs.Common.{◌≡◌, Option, None, sym, ap, subst}
use Rattle.std.specs.Prelude.{IfOk}
use Rattle.cl_model.specs.{declared.{model.SystemModel.SystemModel, refusal.Refusal.Refusal}, Refusals.first, Validity.refusal_of}
use Rattle.cl_explain.specs.Accepted.{accepted_text}
use Rattle.cl_top.specs.Commands.Check.{ValidityChecks}
use Rattle.cl_engine.specs.Done.{IsDone}
use Rattle.cl_top.proofs.commands.check.checked_model.Goals as goal

-- nothing refuses a valid model, and what is known of it is what is known of the one that was read
pub returns-in-Ok-clause-outcome : goal.returns-in-Ok-clause-outcome
returns-in-Ok-clause-outcome g c =
    let none : refusal_of c.args.model ≡ None = ap first c.in-Ok.ensures.valid.accepted in
    subst (λ (refusal : Option Refusal). IfOk c.accepted_model.result (ValidityChecks c.args.bytes.now c.args.model refusal)) (sym none)
    (subst (λ (model : SystemModel). IfOk c.accepted_model.result (IsDone (λ text. text ≡ accepted_text model))) c.in-Ok.ensures.same c.accepted_model.ensures.outcome)
