use Rattle.std.proofs.Common.{ℕ, ◌<◌, List, length, get_or, sym, ap, ◌∙◌, subst, arith}
use Rattle.cl_model.specs.{declared.model.SystemModel.SystemModel, Ranges.IsInRange}
use Rattle.cl_bound.specs.declared.answer.TaskAnswer.{TaskAnswer}
use Rattle.cl_margin.specs.{declared.trial.Trial.Trial, Inner.Trials.IsTrialOf}
use Rattle.cl_margin.proofs.{GrownValid.grown_same, TrialSteps.{one_answered, answer_found, count_found}}
use Rattle.cl_margin.proofs.trial.Trial.reset.Goals as goal

pub at-trial-requires-clause-in_range : goal.at-trial-requires-clause-in_range
at-trial-requires-clause-in_range c =
    let model = c.args.standing.now.model.now in
    let valid = c.requires.standing.valid in
    subst (λ (m : SystemModel). IsInRange m) (sym (grown_same model valid c.args.whose)) valid.in_range

pub loop-task-init : goal.loop-task-init
loop-task-init c =
    let model = c.args.standing.now.model.now in
    subst (λ (m : SystemModel). IsTrialOf m c.at-trial.result) (grown_same model c.requires.standing.valid c.args.whose) c.at-trial.ensures

pub loop-task-preserved : goal.loop-task-preserved
loop-task-preserved c =
    let model = c.args.standing.now.model.now in
    let task : ℕ = c.loop-task.task in
    let answer = c.index-as_slice-task.result in
    let h : task < length model.tasks = omega (arith, c.loop-task-test.true, c.tasks-task-end.ensures.count) in
    let at = c.index-as_slice-task.is ∙ ap (λ (list : List TaskAnswer). get_or list task answer) c.as_slice.ensures in
    subst (λ (t : Trial). IsTrialOf model t) (sym c.keep.ensures)
    (one_answered model c.loop-task.trial c.loop-task.invariant task answer h
    (answer_found model c.args.standing.now.found.now c.requires.standing.found task answer h at))

pub keep-requires : goal.keep-requires
keep-requires c = omega (arith, c.loop-task-test.true, c.tasks-task-end.ensures.count, c.loop-task.invariant.one_a_task)

pub bounds-as_slice-task : goal.bounds-as_slice-task
bounds-as_slice-task c = omega (
  arith,
  c.loop-task-test.true,
  c.tasks-task-end.ensures.count,
  count_found c.args.standing.now.model.now c.args.standing.now.found.now c.requires.standing.found,
  ap length c.as_slice.ensures,
)
