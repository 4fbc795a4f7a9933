use Rattle.std.proofs.Common.{◌≡◌, ℕ, ◌+◌, ◌<◌, [], length, get_or, take, refl, sym, ap, ◌∙◌, subst, arith}
use Rattle.std.specs.Prelude.{All}
use Rattle.std.proofs.lemmas.List.{take_all, get_or_default}
use Rattle.cl_model.specs.ByNumber.{core_of, tasks_of_core}
use Rattle.cl_margin.specs.{declared.{whose.Whose.TheVariants.OneTask, trial.Trial.Trial}, Inner.Trials.{Forgets, is_touched_task}}
use Rattle.cl_margin.proofs.{Forgotten.{forgets_none, forgets_alike}, TouchedTasks.{is_forgotten, touched_more, untouched_more, all_touched}, trial.Trial.forget_touched.Goals.{then-touches, else-touches}}
use Rattle.cl_margin.proofs.trial.Trial.forget_touched.Goals as goal

pub loop-task-init : goal.loop-task-init
loop-task-init c = forgets_none (is_forgotten c.args.standing.now.model.now c.args.grown []) (λ task. refl) c.args.self.now

pub forget-requires : goal.forget-requires
forget-requires c =
    let place : ℕ = c.loop-task.task-index in
    omega (
      arith,
      c.tasks_of_core-task-items.ensures.within place 0 c.loop-task-test.true,
      c.loop-task.invariant.as_many,
      c.requires.as_many,
    )

pub loop-task-preserved : goal.loop-task-preserved
loop-task-preserved c =
    let model = c.args.standing.now.model.now in
    let tasks = c.tasks_of_core-task-items.result.now in
    let place : ℕ = c.loop-task.task-index in
    let task : ℕ = get_or tasks place 0 in
    let at : task ≡ get_or tasks place task = get_or_default tasks place 0 task c.loop-task-test.true in
    elim c.if-touches.branch [
      | then-touches w ↦
          subst (λ (t : Trial). Forgets (is_forgotten model c.args.grown (take (place + 1) tasks)) c.args.self.now t) (sym w.self-is)
          (touched_more model c.args.grown tasks place task c.loop-task-test.true at c.args.self.now c.loop-task.self w.forget.new.self
          (sym c.touches.ensures ∙ w.if-touches.true) c.loop-task.invariant w.forget.ensures)
      | else-touches w ↦
          subst (λ (t : Trial). Forgets (is_forgotten model c.args.grown (take (place + 1) tasks)) c.args.self.now t) (sym w.self-is)
          (untouched_more model c.args.grown tasks place task c.loop-task-test.true at c.args.self.now c.loop-task.self
          (sym c.touches.ensures ∙ w.if-touches.false) c.loop-task.invariant)
    ]

pub returns : goal.returns
returns c =
    let model = c.args.standing.now.model.now in
    let grown : ℕ = c.args.grown in
    let tasks = c.tasks_of_core-task-items.result.now in
    let place : ℕ = c.loop-task.task-index in
    let are : tasks ≡ tasks_of_core model (core_of model grown) = c.tasks_of_core-task-items.ensures.tasks ∙ ap (tasks_of_core model) c.core_of.ensures.core in
    let within = subst (All (λ t. t < length model.tasks)) are c.tasks_of_core-task-items.ensures.within in
    forgets_alike (is_forgotten model grown (take place tasks)) (is_touched_task model (OneTask grown))
    (λ task. ap (λ list. is_forgotten model grown list task) (take_all place tasks c.loop-task-test.false ∙ are) ∙ all_touched model grown task within)
    c.args.self.now c.loop-task.self c.loop-task.invariant
