-- The model whose system is that of the two tasks.
use Rattle.std.specs.Prelude.{false, None, [], ◌∷◌, codes}
use Rattle.cl_model.specs.declared.{chain.ChainDef.ChainDef, model.SystemModel.SystemModel, stimulus.StimulusKind.TheVariants.Periodic, task.{AccessKind.TheVariants.Implicit, TaskDef.TaskDef}}

-- task A writes the label x
abbrev pub model_task_a : TaskDef
model_task_a = record {
  name = codes "A";
  core = codes "c0";
  stimulus = codes "s10";
  priority = 2;
  access = Implicit;
  deadline = None;
  runnables = record { name = codes "a"; least = 3; greatest = 3; whole = false; reads = []; writes = codes "x" ∷ [] } ∷ [];
}

-- task B reads it
abbrev pub model_task_b : TaskDef
model_task_b = record {
  name = codes "B";
  core = codes "c1";
  stimulus = codes "s20";
  priority = 1;
  access = Implicit;
  deadline = None;
  runnables = record { name = codes "b"; least = 5; greatest = 5; whole = false; reads = codes "x" ∷ []; writes = [] } ∷ [];
}

-- the chain from a to b
abbrev pub chain_ab : ChainDef
chain_ab = record { name = codes "ab"; runnables = codes "a" ∷ codes "b" ∷ []; labels = codes "x" ∷ [] }

unfoldable pub two_tasks_model : SystemModel
two_tasks_model = record {
  cores = record { name = codes "c0" } ∷ record { name = codes "c1" } ∷ [];
  stimuli = record { name = codes "s10"; kind = Periodic 10 0 0 } ∷ record { name = codes "s20"; kind = Periodic 20 12 0 } ∷ [];
  labels = record { name = codes "x" } ∷ [];
  tasks = model_task_a ∷ model_task_b ∷ [];
  chains = chain_ab ∷ [];
  requirements = [];
}
