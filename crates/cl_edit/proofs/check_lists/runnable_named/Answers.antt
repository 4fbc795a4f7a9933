use Rattle.std.proofs.Common.{◌<◌, List, length, sym, ap, ◌∙◌, subst}
use Rattle.cl_model.specs.declared.task.{RunnableDef.RunnableDef, TaskDef.TaskDef}
use Rattle.cl_edit.proofs.KnownSteps.{unknown_runnable, runnable_is}
use Rattle.cl_edit.proofs.check_lists.runnable_named.Goals as goal

pub returns-in-None : goal.returns-in-None
returns-in-None c = sym (unknown_runnable c.args.model.now c.args.name.now (sym c.in-None.ensures.found))

pub returns-in-Some : goal.returns-in-Some
returns-in-Some c =
    runnable_is c.args.model.now c.args.name.now c.in-Some.step c.task.result.now c.as_slice.result.now c.index-as_slice-step.result c.in-Some.ensures.found c.in-Some.ensures.step
    (subst (λ (rs : List RunnableDef). c.in-Some.step.place < length rs) (sym (c.as_slice.ensures ∙ ap (λ (t : TaskDef). t.runnables) c.task.ensures.task)) c.in-Some.ensures.within.place)
    c.task.ensures.task c.as_slice.ensures c.index-as_slice-step.is
