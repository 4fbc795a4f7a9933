use Rattle.std.proofs.Common.{◌≡◌, ℕ, ◌<◌, List, length, get_or, sym, ap, ◌∙◌, subst, arith}
use Rattle.std.proofs.lemmas.List.{get_or_default}
use Rattle.cl_model.specs.{declared.{model.SystemModel.SystemModel, task.{RunnableDef.RunnableDef, TaskDef.TaskDef}}, ByNumber.{no_task, no_runnable, task_at}, Ranges.{IsRunnableInRange, IsInRange}}
use Rattle.cl_margin.proofs.{TimedModels.{runnable_in, percent_times, grown_timed}, TimedSteps.{reached_none, reached_all, range_more, is_step, range_valid}}
use Rattle.cl_margin.proofs.trial.Trial.with_task.Goals as goal

pub loop-place-init : goal.loop-place-init
loop-place-init c = λ percents is.
    let model = c.args.standing.now.model.now in
    is ∙ grown_timed model percents ∙ reached_none model (percent_times model percents) c.args.task c.args.percent

pub with_range-model-requires-clause-step : goal.with_range-model-requires-clause-step
with_range-model-requires-clause-step c =
    let model = c.args.standing.now.model.now in
    let task : ℕ = c.args.task in
    let place : ℕ = c.loop-place.place in
    let own = c.index-runnables-place.result in
    let same = c.as_slice-runnables.ensures ∙ ap (λ (t : TaskDef). t.runnables) c.task.ensures.task in
    let g : place < length (task_at model task).runnables = omega (arith, c.loop-place-test.true, ap length same) in
    let is : own ≡ runnable_in model task place = c.index-runnables-place.is ∙ ap (λ (list : List RunnableDef). get_or list place own) same
    ∙ get_or_default (task_at model task).runnables place own no_runnable g in
    is_step model c.requires.in_range.0 task c.args.percent place c.requires.task g c.loop-place.model own c.grown_greatest.result
    (c.loop-place.invariant c.requires.in_range.0 c.requires.in_range.1) is c.grown_greatest.ensures

pub with_range-model-requires-clause-valid : goal.with_range-model-requires-clause-valid
with_range-model-requires-clause-valid c =
    let model = c.args.standing.now.model.now in
    let task : ℕ = c.args.task in
    let place : ℕ = c.loop-place.place in
    let own = c.index-runnables-place.result in
    let same = c.as_slice-runnables.ensures ∙ ap (λ (t : TaskDef). t.runnables) c.task.ensures.task in
    let g : place < length (task_at model task).runnables = omega (arith, c.loop-place-test.true, ap length same) in
    let is : own ≡ runnable_in model task place = c.index-runnables-place.is ∙ ap (λ (list : List RunnableDef). get_or list place own) same
    ∙ get_or_default (task_at model task).runnables place own no_runnable g in
    range_valid model c.requires.in_range.0 task c.args.percent place c.requires.task g c.loop-place.model own c.grown_greatest.result
    (c.loop-place.invariant c.requires.in_range.0 c.requires.in_range.1) is c.grown_greatest.ensures
    c.requires.standing.valid
    (subst (λ (m : SystemModel). IsInRange m) c.requires.in_range.1 c.plain-valid.ensures.valid.in_range)
    c.requires.in_range.2

pub grown_greatest-requires-clause-in_range : goal.grown_greatest-requires-clause-in_range
grown_greatest-requires-clause-in_range c =
    let model = c.args.standing.now.model.now in
    let task : ℕ = c.args.task in
    let place : ℕ = c.loop-place.place in
    let own = c.index-runnables-place.result in
    let same = c.as_slice-runnables.ensures ∙ ap (λ (t : TaskDef). t.runnables) c.task.ensures.task in
    let g : place < length (task_at model task).runnables = omega (arith, c.loop-place-test.true, ap length same) in
    let is = c.index-runnables-place.is ∙ ap (λ (list : List RunnableDef). get_or list place own) same in
    subst (λ (r : RunnableDef). IsRunnableInRange r) (sym is)
    ((c.requires.standing.valid.in_range.tasks task no_task c.requires.task).runnables place own g)

pub loop-place-preserved : goal.loop-place-preserved
loop-place-preserved c = λ percents at.
    let model = c.args.standing.now.model.now in
    let task : ℕ = c.args.task in
    let place : ℕ = c.loop-place.place in
    let own = c.index-runnables-place.result in
    let same = c.as_slice-runnables.ensures ∙ ap (λ (t : TaskDef). t.runnables) c.task.ensures.task in
    let g : place < length (task_at model task).runnables = omega (arith, c.loop-place-test.true, ap length same) in
    let is : own ≡ runnable_in model task place = c.index-runnables-place.is ∙ ap (λ (list : List RunnableDef). get_or list place own) same
    ∙ get_or_default (task_at model task).runnables place own no_runnable g in
    c.with_range-model.ensures
    ∙ range_more model percents task c.args.percent place c.requires.task g c.loop-place.model own c.grown_greatest.result
    (c.loop-place.invariant percents at) is c.grown_greatest.ensures

pub returns-clause-model : goal.returns-clause-model
returns-clause-model c = λ percents at.
    let model = c.args.standing.now.model.now in
    let same = c.as_slice-runnables.ensures ∙ ap (λ (t : TaskDef). t.runnables) c.task.ensures.task in
    c.loop-place.invariant percents at
    ∙ reached_all model percents c.args.task c.args.percent c.loop-place.place (omega (arith, c.loop-place-test.false, ap length same))
