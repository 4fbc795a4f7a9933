use Rattle.std.proofs.Common.{◌≡◌, ◌+◌, ◌-◌, length, take, drop, sym, ap, ◌∙◌, take_all, arith}
use Rattle.std.specs.Prelude.{sum_by}
use Rattle.std.proofs.lemmas.List.{take_rest}
use Rattle.cl_model.specs.declared.task.{RunnableDef.RunnableDef, TaskDef.TaskDef}
use Rattle.cl_model.proofs.ValidTasks.{little_time}
use Rattle.cl_resp.proofs.{PhasedAnswers.ranges_counted, PartAnswers.{behind_is, one_more_fits}}
use Rattle.cl_resp.proofs.by_phase.time_behind.Goals as goal

pub slice_bounds-runnable-items-count : goal.slice_bounds-runnable-items-count
slice_bounds-runnable-items-count c =
    let same = c.as_slice.ensures ∙ ap (λ (t : TaskDef). t.runnables) c.task.ensures.task in
    omega (arith, ap (length {A = RunnableDef}) same, ranges_counted c.args.model.now c.args.task c.requires.task, c.requires.place)

pub slice_bounds-runnable-items-start : goal.slice_bounds-runnable-items-start
slice_bounds-runnable-items-start c =
    let same = c.as_slice.ensures ∙ ap (λ (t : TaskDef). t.runnables) c.task.ensures.task in
    omega (arith, ap (length {A = RunnableDef}) same, ranges_counted c.args.model.now c.args.task c.requires.task, c.requires.place)

pub overflow_add-time : goal.overflow_add-time
overflow_add-time c =
    let model = c.args.model.now in
    let runnables = c.as_slice.result.now in
    let same = c.as_slice.ensures ∙ ap (λ (t : TaskDef). t.runnables) c.task.ensures.task in
    let items = take (length runnables - (c.args.place + 1)) (drop (c.args.place + 1) runnables) in
    let more = one_more_fits runnables items (c.args.place + 1) c.loop-runnable.runnable-index c.loop-runnable.time c.runnable-item.result
    (take_rest runnables (c.args.place + 1)) c.loop-runnable-test.true c.runnable-item.is c.loop-runnable.invariant in
    let all = ap (sum_by (λ (one : RunnableDef). one.greatest)) same in
    omega (arith, more, all, little_time model c.task.ensures.valid c.args.task c.requires.task)

pub returns-clause-time : goal.returns-clause-time
returns-clause-time c =
    let runnables = c.as_slice.result.now in
    let items = take (length runnables - (c.args.place + 1)) (drop (c.args.place + 1) runnables) in
    let same = c.as_slice.ensures ∙ ap (λ (t : TaskDef). t.runnables) c.task.ensures.task in
    let all : take c.loop-runnable.runnable-index items ≡ items = take_all c.loop-runnable.runnable-index items (omega (arith, c.loop-runnable-test.false)) in
    c.loop-runnable.invariant
    ∙ ap (sum_by (λ (one : RunnableDef). one.greatest)) (all ∙ take_rest runnables (c.args.place + 1) ∙ ap (drop (c.args.place + 1)) same)
    ∙ sym (behind_is c.args.model.now c.args.task c.requires.task c.args.place)
