use Rattle.std.proofs.Common.{sym, ap, ◌∙◌, subst}
use Rattle.std.proofs.lemmas.Result.{IfOk-weaker}
use Rattle.std.specs.Prelude.{◌≡◌, Option, Err}
use Rattle.cl_model.specs.{declared.{model_fault.ModelFault.ModelFault, refusal.Refusal.Refusal}, Answers.MatchFault}
use Rattle.cl_edit.specs.{Edited.edited, declared.edit_lines.ListedEdit.ListedEdit, Listed.GivesNext}
use Rattle.cl_engine.specs.declared.outcome.Outcome.{Outcome}
use Rattle.cl_top.specs.{Commands.{command_meaning, Apply.{all_written, refused_alone}, Edit.edits_refused}, Inner.Applying.ApplyTo}
use Rattle.cl_top.proofs.{LinesApplied.{all_left, next_in_range, next_applied, next_refused, none_left}, LinesMade.next_fewer}
use Rattle.cl_top.proofs.commands.apply.apply_lines.Goals as goal

pub loop-model-init : goal.loop-model-init
loop-model-init c = all_left all_written refused_alone c.args.model c.args.lines c.requires

-- an edit that is read is in range
pub apply_listed-requires : goal.apply_listed-requires
apply_listed-requires c =
    next_in_range all_written refused_alone c.args.model c.args.lines c.loop-model.model c.loop-model.lines c.loop-model.invariant
    c.in-Some.listed c.next.new.self (subst (λ (next : Option ListedEdit). GivesNext next c.loop-model.lines c.next.new.self) c.in-Some.is c.in_ok-listed.ensures.next)

pub returns-in-Err-Refused : goal.returns-in-Err-Refused
returns-in-Err-Refused c = IfOk-weaker c.refused_alone.result _ _ (λ outcome is.
    subst (λ (o : Outcome). ApplyTo all_written refused_alone c.args.model c.args.lines o)
    (sym (is ∙ ap (λ (refusal : Refusal). edits_refused c.in-Some.listed.line refusal) c.in-Err-Refused.refusal-is))
    (next_refused all_written refused_alone c.args.model c.args.lines c.loop-model.model c.loop-model.lines c.loop-model.invariant
    c.in-Some.listed c.next.new.self (subst (λ (next : Option ListedEdit). GivesNext next c.loop-model.lines c.next.new.self) c.in-Some.is c.in_ok-listed.ensures.next)
    c.in-Err-Refused.refusal (subst (λ (fault : ModelFault). MatchFault fault (λ refusal. edited c.loop-model.model c.in-Some.listed.edit ≡ Err refusal)) c.in-Err-Refused.field-0-is c.in-Err-Refused.ensures))) c.refused_alone.ensures

pub returns : goal.returns
unfolding command_meaning
returns c = IfOk-weaker c.migrated.result _ _ (λ outcome is.
    none_left all_written refused_alone c.args.model c.args.lines c.loop-model.model c.loop-model.lines c.loop-model.invariant c.next.new.self
    (subst (λ (next : Option ListedEdit). GivesNext next c.loop-model.lines c.next.new.self) c.in_default.is c.in_ok-listed.ensures.next) outcome is) c.migrated.ensures

pub loop-model-smaller : goal.loop-model-smaller
loop-model-smaller c =
    next_fewer c.in-Some.listed c.loop-model.lines c.next.new.self
    (subst (λ (next : Option ListedEdit). GivesNext next c.loop-model.lines c.next.new.self) c.in-Some.is c.in_ok-listed.ensures.next)

pub loop-model-preserved : goal.loop-model-preserved
loop-model-preserved c =
    next_applied all_written refused_alone c.args.model c.args.lines c.loop-model.model c.loop-model.lines c.loop-model.invariant
    c.in-Some.listed c.next.new.self (subst (λ (next : Option ListedEdit). GivesNext next c.loop-model.lines c.next.new.self) c.in-Some.is c.in_ok-listed.ensures.next)
    c.in-Ok.changed c.in-Ok.ensures
