use Rattle.std.proofs.Common.{ℕ, ◌<◌, length, get_or, set, ap, ◌∙◌, arith}
use Rattle.std.proofs.lemmas.List.{get_or_default}
use Rattle.std.proofs.lemmas.List.Edits.{map_over_more}
use Rattle.cl_model.specs.{declared.group.Step.Step, TaskNumbers.step_without}
use Rattle.cl_model.proofs.task_numbers.renumber_steps.Goals as goal

pub loop-step-preserved : goal.loop-step-preserved
loop-step-preserved c =
    let zeros : Step = record { task = 0; place = 0 } in
    let step : Step = get_or c.loop-step.step-items c.loop-step.step-index zeros in
    let within : c.loop-step.step-index < length c.args.steps.now.items = omega (arith, c.loop-step-test.true, ap length c.deref_mut-step-items.ensures.value) in
    let kept : c.loop-step.step-index < length c.loop-step.step-items = omega (arith, c.loop-step-test.true) in
    ap (λ (n : ℕ). let renumbered : Step = record { task = n; place = step.place } in set c.loop-step.step-items c.loop-step.step-index renumbered) c.number_without-step.ensures
    ∙ map_over_more (step_without c.args.gone) c.args.steps.now.items c.loop-step.step-items c.loop-step.step-index step within c.loop-step.invariant
    (get_or_default c.loop-step.step-items c.loop-step.step-index zeros step kept)
