use Rattle.std.proofs.Common.{◌≡◌, ◌++◌, sym, subst}
use Rattle.std.specs.Prelude.{OnOk}
use Rattle.cl_margin.specs.declared.answer.Breaks.{Breaks}
use Rattle.cl_designs.specs.Margins.{IsBreakOf, broken_words}
use Rattle.cl_designs.proofs.margins.put_breaks.Goals as goal

pub put_broken_task-requires : goal.put_broken_task-requires
put_broken_task-requires c = subst (IsBreakOf c.args.model.now) c.in-Task.is c.requires

pub put_broken_requirement-requires : goal.put_broken_requirement-requires
put_broken_requirement-requires c = subst (IsBreakOf c.args.model.now) c.in-Requirement.is c.requires

pub returns-in-Task : goal.returns-in-Task
returns-in-Task c =
    subst (λ (breaks : Breaks). OnOk c.put_broken_task.result (c.put_broken_task.new.text ≡ c.args.text.now ++ broken_words c.args.model.now breaks))
    (sym c.in-Task.is) c.put_broken_task.ensures

pub returns-in-Requirement : goal.returns-in-Requirement
returns-in-Requirement c =
    subst (λ (breaks : Breaks). OnOk c.put_broken_requirement.result (c.put_broken_requirement.new.text ≡ c.args.text.now ++ broken_words c.args.model.now breaks))
    (sym c.in-Requirement.is) c.put_broken_requirement.ensures

pub returns-in-Limit : goal.returns-in-Limit
returns-in-Limit c =
    subst (λ (breaks : Breaks). OnOk c.put.result (c.put.new.self ≡ c.args.text.now ++ broken_words c.args.model.now breaks))
    (sym c.in-Limit.is) c.put.ensures.ok
