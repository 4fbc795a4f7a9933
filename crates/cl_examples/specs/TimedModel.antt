-- The model whose system is that of the two timed tasks.
use Rattle.std.specs.Prelude.{false, [], ◌∷◌, codes}
use Rattle.cl_model.specs.declared.{model.SystemModel.SystemModel, stimulus.StimulusKind.TheVariants.Periodic, task.{AccessKind.TheVariants.Timed, TaskDef.TaskDef}}
use Rattle.cl_examples.specs.ExampleModel.{model_task_a, model_task_b, two_tasks_model}

-- the tasks of the first example's model, timed and with runnables of one tick
abbrev pub timed_model_a : TaskDef
timed_model_a = record model_task_a {
  access = Timed;
  runnables = record { name = codes "a"; least = 1; greatest = 1; whole = false; reads = []; writes = codes "x" ∷ [] } ∷ [];
}

abbrev pub timed_model_b : TaskDef
timed_model_b = record model_task_b {
  access = Timed;
  stimulus = codes "s15";
  runnables = record { name = codes "b"; least = 1; greatest = 1; whole = false; reads = codes "x" ∷ []; writes = [] } ∷ [];
}

unfoldable pub timed_model : SystemModel
timed_model = record two_tasks_model {
  stimuli = record { name = codes "s10"; kind = Periodic 10 0 0 } ∷ record { name = codes "s15"; kind = Periodic 15 0 0 } ∷ [];
  tasks = timed_model_a ∷ timed_model_b ∷ [];
}
