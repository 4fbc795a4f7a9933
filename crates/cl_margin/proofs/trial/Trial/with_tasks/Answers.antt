use Rattle.std.proofs.Common.{ℕ, ◌+◌, refl, sym, ◌∙◌, subst, arith}
use Rattle.cl_model.specs.{declared.model.SystemModel.SystemModel, Ranges.IsInRange}
use Rattle.cl_margin.proofs.TimedSteps.{risen, risen_none, risen_more, risen_all, risen_in_range}
use Rattle.cl_margin.proofs.trial.Trial.with_tasks.Goals as goal

pub loop-task-init : goal.loop-task-init
loop-task-init c = record {
  model = λ now is. is ∙ risen_none c.args.standing.now.model.now now c.args.percent;
  answers = refl;
  windows = refl;
  cycles = refl;
}

pub with_task-trial-requires-clause-in_range : goal.with_task-trial-requires-clause-in_range
with_task-trial-requires-clause-in_range c =
    let model = c.args.standing.now.model.now in
    let now : ℕ = c.requires.grown.0 in
    let task : ℕ = c.loop-task.task in
    let percent : ℕ = c.args.percent in
    let before = subst (λ (m : SystemModel). IsInRange m) c.requires.grown.1 c.plain-valid.ensures.valid.in_range in (
      risen model now percent task,
      c.loop-task.invariant.model now c.requires.grown.1,
      subst (λ (m : SystemModel). IsInRange m) (sym (risen_more model now percent task))
          (risen_in_range model now percent (task + 1) c.tasks-task-end.ensures.valid before c.requires.in_range),
    )

pub loop-task-preserved : goal.loop-task-preserved
loop-task-preserved c =
    let model = c.args.standing.now.model.now in
    let is = c.loop-task.invariant in
    record {
      model = λ now same. c.with_task-trial.ensures.model (risen model now c.args.percent c.loop-task.task) (is.model now same)
          ∙ risen_more model now c.args.percent c.loop-task.task;
      answers = c.with_task-trial.ensures.answers ∙ is.answers;
      windows = c.with_task-trial.ensures.windows ∙ is.windows;
      cycles = c.with_task-trial.ensures.cycles ∙ is.cycles;
    }

pub returns-clause-model : goal.returns-clause-model
returns-clause-model c =
    c.loop-task.invariant.model c.requires.grown.0 c.requires.grown.1
    ∙ risen_all c.args.standing.now.model.now c.requires.grown.0 c.args.percent c.loop-task.task (omega (arith, c.loop-task-test.false, c.tasks-task-end.ensures.count))
