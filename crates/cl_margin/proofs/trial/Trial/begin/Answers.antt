use Rattle.std.proofs.Common.{◌≡◌, Some, map, ap, ◌∙◌}
use Rattle.std.proofs.lemmas.List.{take_all}
use Rattle.cl_bound.specs.declared.answer.TaskAnswer.{TaskAnswer}
use Rattle.cl_margin.proofs.TrialSteps.{trial_begun}
use Rattle.cl_margin.proofs.trial.Trial.begin.Goals as goal

pub returns : goal.returns
returns c =
    let some = λ (answer : TaskAnswer). Some answer in
    let answers = c.answers-2.inside.items.items in
    let are : answers ≡ c.loop-answer.answers = c.answers-2.view_is in
    trial_begun c.args.standing.now.model.now c.args.standing.now.found.now c.requires.found
    (record { model = c.in_ok-copy.field-0; answers = answers; windows = c.in_ok-new.field-0; cycles = c.in_ok-cycles_of.field-0 })
    c.in_ok-copy.ensures
    (are ∙ c.loop-answer.invariant
    ∙ ap (map some) (take_all c.loop-answer.answer-index c.as_slice-answer-items.result.now c.loop-answer-test.false ∙ c.as_slice-answer-items.ensures))
    c.in_ok-new.ensures c.in_ok-cycles_of.ensures
