use Rattle.std.proofs.Common.{sym, ap, ◌∙◌, subst, Ok}
use Rattle.cl_top.specs.{declared.commands.check_list.Tried.Tried, Inner.ListsMade.IsTriedAs}
use Rattle.cl_top.proofs.commands.check_list.make_tried.Goals as goal

pub returns-in_ok-changed-in-Accepted : goal.returns-in_ok-changed-in-Accepted
returns-in_ok-changed-in-Accepted c =
    let accepted = subst (λ (it : Tried). IsTriedAs c.args.text.now c.args.model c.args.listed.now it) c.in-Accepted.is c.in_ok-change.ensures in
    accepted.1 ∙ ap Ok (sym c.in_ok-changed-in-Accepted.ensures)

pub returns-in-Stopped : goal.returns-in-Stopped
returns-in-Stopped c = subst (λ (it : Tried). IsTriedAs c.args.text.now c.args.model c.args.listed.now it) c.in-Stopped.is c.in_ok-change.ensures
