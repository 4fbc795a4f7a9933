use Rattle.std.proofs.Common.{sym, ap, ◌∙◌, subst}
use Rattle.std.proofs.lemmas.Result.{IfOk-weaker}
use Rattle.std.specs.Prelude.{ℕ, List, Option, Err}
use Rattle.cl_edit.specs.{declared.edit_lines.ListedEdit.ListedEdit, Listed.GivesNext}
use Rattle.cl_engine.specs.declared.outcome.Outcome.{Outcome}
use Rattle.cl_top.specs.Commands.Edit.{edits_refused, behind, AreEditedTo}
use Rattle.cl_top.proofs.LinesMade.{none_made, next_in_range, next_fewer, next_made, next_refused, next_asked, none_left, no_more_asked}
use Rattle.cl_top.proofs.commands.edit.write_lines.Goals as goal

pub loop-text-init : goal.loop-text-init
loop-text-init g c = none_made c.args.lines c.args.session.now.model c.new-text.result c.args.steps.now c.new-text.ensures

-- an edit that is read is in range
pub make_listed-requires : goal.make_listed-requires
make_listed-requires g c =
    next_in_range c.args.lines c.args.session.now.model c.args.steps.now c.loop-text.session.model c.loop-text.text c.loop-text.steps c.loop-text.lines c.loop-text.invariant
    c.in-Some.listed c.next.new.self (subst (λ (next : Option ListedEdit). GivesNext next c.loop-text.lines c.next.new.self) c.in-Some.is c.in_ok-listed.ensures.next) c.requires

pub returns-in_err-listed-clause-steps : goal.returns-in_err-listed-clause-steps
returns-in_err-listed-clause-steps g c =
    no_more_asked c.args.lines c.args.session.now.model c.args.steps.now c.loop-text.session.model c.loop-text.text c.loop-text.steps c.loop-text.lines c.loop-text.invariant

pub returns-in-Err-clause-outcome : goal.returns-in-Err-clause-outcome
returns-in-Err-clause-outcome g c = IfOk-weaker c.stopped.result _ _ (λ outcome is.
    let refused = c.in-Err.ensures.refused is.0 (ap Err is.1) in
    let come = next_refused c.args.lines c.args.session.now.model c.args.steps.now c.loop-text.session.model c.loop-text.text c.loop-text.steps c.loop-text.lines c.loop-text.invariant
    c.in-Some.listed c.next.new.self (subst (λ (next : Option ListedEdit). GivesNext next c.loop-text.lines c.next.new.self) c.in-Some.is c.in_ok-listed.ensures.next) is.0 refused.0 in
    subst (λ (o : Outcome). AreEditedTo c.args.session.now.model c.args.lines o)
    (ap (λ (t : List ℕ). behind t (edits_refused c.in-Some.listed.line is.0)) (sym refused.1) ∙ sym is.2) come) c.stopped.ensures

pub returns-in-Err-clause-steps : goal.returns-in-Err-clause-steps
returns-in-Err-clause-steps g c =
    next_asked c.args.lines c.args.session.now.model c.args.steps.now c.loop-text.session.model c.loop-text.text c.loop-text.steps c.loop-text.lines c.loop-text.invariant
    c.in-Some.listed c.next.new.self (subst (λ (next : Option ListedEdit). GivesNext next c.loop-text.lines c.next.new.self) c.in-Some.is c.in_ok-listed.ensures.next)
    c.make_listed.new.steps c.make_listed.ensures.steps

pub loop-text-smaller : goal.loop-text-smaller
loop-text-smaller g c =
    next_fewer c.in-Some.listed c.loop-text.lines c.next.new.self
    (subst (λ (next : Option ListedEdit). GivesNext next c.loop-text.lines c.next.new.self) c.in-Some.is c.in_ok-listed.ensures.next)

pub loop-text-preserved : goal.loop-text-preserved
loop-text-preserved g c =
    next_made c.args.lines c.args.session.now.model c.args.steps.now c.loop-text.session.model c.loop-text.text c.loop-text.steps c.loop-text.lines c.loop-text.invariant
    c.in-Some.listed c.next.new.self (subst (λ (next : Option ListedEdit). GivesNext next c.loop-text.lines c.next.new.self) c.in-Some.is c.in_ok-listed.ensures.next)
    c.make_listed.new.session.model c.make_listed.new.text c.make_listed.new.steps c.in_default-make_listed.ensures.made c.make_listed.ensures.steps

pub returns-clause-outcome : goal.returns-clause-outcome
returns-clause-outcome g c =
    subst (λ (o : Outcome). AreEditedTo c.args.session.now.model c.args.lines o) (sym c.done.ensures)
    (none_left c.args.lines c.args.session.now.model c.args.steps.now c.loop-text.session.model c.loop-text.text c.loop-text.steps c.loop-text.lines c.loop-text.invariant
    c.next.new.self (subst (λ (next : Option ListedEdit). GivesNext next c.loop-text.lines c.next.new.self) c.in_default.is c.in_ok-listed.ensures.next))

pub returns-clause-steps : goal.returns-clause-steps
returns-clause-steps g c =
    no_more_asked c.args.lines c.args.session.now.model c.args.steps.now c.loop-text.session.model c.loop-text.text c.loop-text.steps c.loop-text.lines c.loop-text.invariant
