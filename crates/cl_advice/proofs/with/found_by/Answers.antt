use Rattle.std.proofs.Common.{◌≡◌, ◌+◌, Bool, Option, Some, None, drop, refl, sym, ap, ◌∙◌}
use Rattle.std.specs.List.{find}
use Rattle.std.specs.Option.{option_or}
use Rattle.cl_model.specs.{declared.task.RunnableDef.RunnableDef, Named.all_runnables}
use Rattle.cl_advice.specs.With.{is_sought}
use Rattle.cl_advice.proofs.Writers.{first_of_more}
use Rattle.cl_advice.proofs.with.found_by.Goals as goal

pub returns-in-Some : goal.returns-in-Some
returns-in-Some c =
    let sought : RunnableDef → Bool = is_sought c.args.sought c.args.name.now in
    let rest : Option RunnableDef = find sought (all_runnables (drop (c.loop-task.task-index + 1) c.as_slice-task-items.result.now)) in
    let found : find sought c.task-item.result.runnables ≡ Some c.in-Some.runnable.now = rw (← c.as_slice.ensures, ← c.found_among.ensures, c.in-Some.is) refl in
    let more = first_of_more sought c.as_slice-task-items.result.now c.loop-task.task-index c.task-item.result c.loop-task-test.true c.task-item.is in
    sym (sym c.loop-task.invariant ∙ more ∙ ap (λ (first : Option RunnableDef). option_or first rest) found)

pub loop-task-preserved : goal.loop-task-preserved
loop-task-preserved c =
    let sought : RunnableDef → Bool = is_sought c.args.sought c.args.name.now in
    let rest : Option RunnableDef = find sought (all_runnables (drop (c.loop-task.task-index + 1) c.as_slice-task-items.result.now)) in
    let none : find sought c.task-item.result.runnables ≡ None = rw (← c.as_slice.ensures, ← c.found_among.ensures, c.in_default.is) refl in
    let more = first_of_more sought c.as_slice-task-items.result.now c.loop-task.task-index c.task-item.result c.loop-task-test.true c.task-item.is in
    sym (ap (λ (first : Option RunnableDef). option_or first rest) none) ∙ sym more ∙ c.loop-task.invariant
