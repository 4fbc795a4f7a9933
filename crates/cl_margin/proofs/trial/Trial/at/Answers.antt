use Rattle.std.proofs.Common.{◌≡◌, ℕ, nat_lt, length, sym, ap, ◌∙◌, subst, arith}
use Rattle.cl_model.specs.{declared.model.SystemModel.SystemModel, Ranges.IsInRange, Validity.IsValid}
use Rattle.cl_margin.specs.{declared.whose.Whose.{Whose, TheVariants.{EveryTask, OneTask}}, Grown.{percent_of, grown}, Inner.{Touched.IsOfModel, Trials.{IsTrialAt, is_touched_task}}}
use Rattle.cl_margin.proofs.{GrownValid.{count_grown, grown_valid}, Forgotten.{forgets_alike, trial_kept}, TimedSteps.one_put, TouchedTasks.and_true}
use Rattle.cl_margin.proofs.trial.Trial.at.Goals as goal

pub with_tasks-trial-requires-clause-in_range : goal.with_tasks-trial-requires-clause-in_range
with_tasks-trial-requires-clause-in_range c =
    subst (λ (w : Whose). IsInRange (grown c.args.standing.now.model.now w c.args.percent)) c.in-EveryTask.is c.requires.in_range

pub with_tasks-trial-requires-clause-grown : goal.with_tasks-trial-requires-clause-grown
with_tasks-trial-requires-clause-grown c =
    let now : ℕ = c.requires.trial.0 in
    (now, subst (λ (w : Whose). c.args.self.model ≡ grown c.args.standing.now.model.now w now) c.in-EveryTask.is c.requires.trial.1.is)

pub forget_all-requires : goal.forget_all-requires
forget_all-requires c =
    let model = c.args.standing.now.model.now in
    let done = c.with_tasks-trial.ensures in
    let now : ℕ = c.requires.trial.0 in
    omega (
      arith,
      ap length done.answers,
      c.requires.trial.1.one_a_task,
      count_grown model c.args.whose now,
      count_grown model EveryTask c.args.percent,
      ap (λ (m : SystemModel). length m.tasks) done.model,
    )

pub returns-in-EveryTask : goal.returns-in-EveryTask
returns-in-EveryTask c =
    let model = c.args.standing.now.model.now in
    let now : ℕ = c.requires.trial.0 in
    let percent : ℕ = c.args.percent in
    let done = c.with_tasks-trial.ensures in
    let changed = c.with_tasks-trial.result in
    let next = c.forget_all.new.self in
    let is = subst (λ (w : Whose). IsTrialAt model w now c.args.self) c.in-EveryTask.is c.requires.trial.1 in
    let in_range = subst (λ (w : Whose). IsInRange (grown model w percent)) c.in-EveryTask.is c.requires.in_range in
    let valid_now = subst (λ (m : SystemModel). IsValid m) is.is c.plain-valid.ensures.valid in
    let valid_then = grown_valid model c.requires.standing.valid EveryTask percent in_range in
    let count : length changed.model.tasks ≡ length model.tasks = ap (λ (m : SystemModel). length m.tasks) done.model ∙ count_grown model EveryTask percent in
    subst (λ (w : Whose). IsTrialAt model w percent next) (sym c.in-EveryTask.is)
    (trial_kept model EveryTask now percent valid_now valid_then c.args.self changed next is done.model done.answers done.windows done.cycles
    (forgets_alike (λ task. nat_lt task (length changed.model.tasks)) (is_touched_task model EveryTask)
    (λ task. ap (nat_lt task) count ∙ sym (and_true (nat_lt task (length model.tasks)))) changed next c.forget_all.ensures))

pub with_task-trial-requires-clause-task : goal.with_task-trial-requires-clause-task
with_task-trial-requires-clause-task c = subst (λ (w : Whose). IsOfModel c.args.standing.now.model.now w) c.in-OneTask.is c.requires.whose

pub with_task-trial-requires-clause-in_range : goal.with_task-trial-requires-clause-in_range
with_task-trial-requires-clause-in_range c =
    let model = c.args.standing.now.model.now in
    let now : ℕ = c.requires.trial.0 in
    let percent : ℕ = c.args.percent in
    let task : ℕ = c.in-OneTask.task in (
      percent_of (OneTask task) now,
      subst (λ (w : Whose). c.args.self.model ≡ grown model w now) c.in-OneTask.is c.requires.trial.1.is,
      subst (λ (m : SystemModel). IsInRange m) (sym (one_put model task now percent))
          (subst (λ (w : Whose). IsInRange (grown model w percent)) c.in-OneTask.is c.requires.in_range),
    )

pub forget_touched-requires-clause-grown : goal.forget_touched-requires-clause-grown
forget_touched-requires-clause-grown c = subst (λ (w : Whose). IsOfModel c.args.standing.now.model.now w) c.in-OneTask.is c.requires.whose

pub forget_touched-requires-clause-as_many : goal.forget_touched-requires-clause-as_many
forget_touched-requires-clause-as_many c = omega (
  arith,
  ap length c.with_task-trial.ensures.answers,
  c.requires.trial.1.one_a_task,
  count_grown c.args.standing.now.model.now c.args.whose c.requires.trial.0,
)

pub returns-in-OneTask : goal.returns-in-OneTask
returns-in-OneTask c =
    let model = c.args.standing.now.model.now in
    let now : ℕ = c.requires.trial.0 in
    let percent : ℕ = c.args.percent in
    let task : ℕ = c.in-OneTask.task in
    let done = c.with_task-trial.ensures in
    let changed = c.with_task-trial.result in
    let next = c.forget_touched.new.self in
    let is = subst (λ (w : Whose). IsTrialAt model w now c.args.self) c.in-OneTask.is c.requires.trial.1 in
    let in_range = subst (λ (w : Whose). IsInRange (grown model w percent)) c.in-OneTask.is c.requires.in_range in
    let valid_now = subst (λ (m : SystemModel). IsValid m) is.is c.plain-valid.ensures.valid in
    let valid_then = grown_valid model c.requires.standing.valid (OneTask task) percent in_range in
    subst (λ (w : Whose). IsTrialAt model w percent next) (sym c.in-OneTask.is)
    (trial_kept model (OneTask task) now percent valid_now valid_then c.args.self changed next is
    (done.model (percent_of (OneTask task) now) is.is ∙ one_put model task now percent) done.answers done.windows done.cycles c.forget_touched.ensures)
