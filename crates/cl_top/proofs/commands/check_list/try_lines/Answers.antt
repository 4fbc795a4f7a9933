use Rattle.std.proofs.Common.{sym, subst}
use Rattle.std.proofs.lemmas.Result.{IfOk-weaker}
use Rattle.std.specs.Prelude.{Option}
use Rattle.cl_edit.specs.{declared.edit_lines.ListedEdit.ListedEdit, Listed.GivesNext}
use Rattle.cl_engine.specs.declared.outcome.Outcome.{Outcome}
use Rattle.cl_top.specs.{Commands.CheckFile.{all_accepted, edit_mended}, declared.commands.check_list.Left.Left, Inner.{Applying.ApplyTo, ListsMade.IsLeftBy}}
use Rattle.cl_top.proofs.{LinesApplied.{all_left, next_in_range, next_applied, next_refused, none_left}, LinesMade.next_fewer}
use Rattle.cl_top.proofs.commands.check_list.try_lines.Goals as goal

pub loop-model-init : goal.loop-model-init
loop-model-init c = all_left all_accepted (edit_mended c.args.text.now) c.args.model c.args.lines c.requires

-- an edit that is read is in range
pub make_listed-requires : goal.make_listed-requires
make_listed-requires c =
    next_in_range all_accepted (edit_mended c.args.text.now) c.args.model c.args.lines c.loop-model.model c.loop-model.lines c.loop-model.invariant
    c.in-Some.listed c.next.new.self (subst (λ (next : Option ListedEdit). GivesNext next c.loop-model.lines c.next.new.self) c.in-Some.is c.in_ok-listed.ensures.next)

pub returns-in-Outcome : goal.returns-in-Outcome
returns-in-Outcome c =
    let stopped = subst (λ (it : Left). IsLeftBy c.args.text.now c.loop-model.model c.in-Some.listed it) c.in-Outcome.is c.in_ok-changed.ensures in
    subst (λ (found : Outcome). ApplyTo all_accepted (edit_mended c.args.text.now) c.args.model c.args.lines found) (sym stopped.2)
    (next_refused all_accepted (edit_mended c.args.text.now) c.args.model c.args.lines c.loop-model.model c.loop-model.lines c.loop-model.invariant
    c.in-Some.listed c.next.new.self (subst (λ (next : Option ListedEdit). GivesNext next c.loop-model.lines c.next.new.self) c.in-Some.is c.in_ok-listed.ensures.next)
    stopped.0 stopped.1)

pub returns : goal.returns
returns c = IfOk-weaker c.accepted_file.result _ _ (λ outcome is.
    none_left all_accepted (edit_mended c.args.text.now) c.args.model c.args.lines c.loop-model.model c.loop-model.lines c.loop-model.invariant c.next.new.self
    (subst (λ (next : Option ListedEdit). GivesNext next c.loop-model.lines c.next.new.self) c.in_default.is c.in_ok-listed.ensures.next) outcome is) c.accepted_file.ensures

pub loop-model-smaller : goal.loop-model-smaller
loop-model-smaller c =
    next_fewer c.in-Some.listed c.loop-model.lines c.next.new.self
    (subst (λ (next : Option ListedEdit). GivesNext next c.loop-model.lines c.next.new.self) c.in-Some.is c.in_ok-listed.ensures.next)

pub loop-model-preserved : goal.loop-model-preserved
loop-model-preserved c =
    next_applied all_accepted (edit_mended c.args.text.now) c.args.model c.args.lines c.loop-model.model c.loop-model.lines c.loop-model.invariant
    c.in-Some.listed c.next.new.self (subst (λ (next : Option ListedEdit). GivesNext next c.loop-model.lines c.next.new.self) c.in-Some.is c.in_ok-listed.ensures.next)
    c.in-Model.changed (subst (λ (it : Left). IsLeftBy c.args.text.now c.loop-model.model c.in-Some.listed it) c.in-Model.is c.in_ok-changed.ensures)
