use Rattle.std.proofs.Common.{Option, List, length, get_or, ap, ◌∙◌, arith}
use Rattle.cl_bound.specs.declared.answer.TaskAnswer.{TaskAnswer}
use Rattle.cl_margin.proofs.TrialSteps.{found_is}
use Rattle.cl_margin.proofs.trial.Trial.found.Goals as goal

pub bounds-as_slice-task : goal.bounds-as_slice-task
bounds-as_slice-task c = omega (arith, c.requires.task, c.requires.trial.one_a_task, ap length c.as_slice.ensures)

pub returns : goal.returns
returns c =
    let found = c.index-as_slice-task.result in
    found_is c.args.self.now.model c.args.self.now c.requires.trial c.args.task found c.requires.task
    (c.index-as_slice-task.is ∙ ap (λ (list : List (Option TaskAnswer)). get_or list c.args.task found) c.as_slice.ensures)
