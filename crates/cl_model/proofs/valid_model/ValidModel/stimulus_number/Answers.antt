use Rattle.cl_model.specs.{declared.task.TaskDef.TaskDef, ByNumber.{no_task, stimulus_number}}
use Rattle.cl_model.proofs.{ListFacts.mapped_at, NamesKnown.stimulus_numbered}
use Rattle.cl_model.proofs.valid_model.ValidModel.stimulus_number.Goals as goal

-- what is kept is the number of the stimulus that the task names
pub returns-clause-within : goal.returns-clause-within
returns-clause-within c =
    let model = c.self.inside.model in
    let kept = mapped_at (λ (task : TaskDef). stimulus_number model task.stimulus) model.tasks no_task c.self.inside.look_ups.tasks.stimuli.items c.args.task c.index.result.now c.self.invariant.look_ups.tasks.stimuli (rw (← c.self.view_is) at c.requires) c.index.ensures in
    rw (kept, ← c.self.view_is) (stimulus_numbered model c.self.invariant.valid c.args.task (rw (← c.self.view_is) at c.requires)).0

pub returns-clause-kind : goal.returns-clause-kind
returns-clause-kind c =
    let model = c.self.inside.model in
    let kept = mapped_at (λ (task : TaskDef). stimulus_number model task.stimulus) model.tasks no_task c.self.inside.look_ups.tasks.stimuli.items c.args.task c.index.result.now c.self.invariant.look_ups.tasks.stimuli (rw (← c.self.view_is) at c.requires) c.index.ensures in
    rw (kept, ← c.self.view_is) (stimulus_numbered model c.self.invariant.valid c.args.task (rw (← c.self.view_is) at c.requires)).1
