-- The model whose system is that of the two tasks on one core.
use Rattle.std.specs.Prelude.{true, false, None, [], ◌∷◌, codes}
use Rattle.cl_model.specs.declared.{chain.ChainDef.ChainDef, model.SystemModel.SystemModel, stimulus.StimulusKind.TheVariants.Periodic, task.{AccessKind.TheVariants.Implicit, TaskDef.TaskDef}}
use Rattle.cl_examples.specs.ExampleModel.{chain_ab}

-- task A writes the label x, and reads y
abbrev pub one_core_a : TaskDef
one_core_a = record {
  name = codes "A";
  core = codes "c0";
  stimulus = codes "s10";
  priority = 2;
  access = Implicit;
  deadline = None;
  runnables = record { name = codes "a"; least = 3; greatest = 3; whole = false; reads = codes "y" ∷ []; writes = codes "x" ∷ [] } ∷ [];
}

-- task B reads x, and writes y
abbrev pub one_core_b : TaskDef
one_core_b = record {
  name = codes "B";
  core = codes "c0";
  stimulus = codes "s20";
  priority = 1;
  access = Implicit;
  deadline = None;
  runnables = record { name = codes "b"; least = 6; greatest = 6; whole = true; reads = codes "x" ∷ []; writes = codes "y" ∷ [] } ∷ [];
}

-- the chain back from b to a
abbrev pub chain_ba : ChainDef
chain_ba = record { name = codes "ba"; runnables = codes "b" ∷ codes "a" ∷ []; labels = codes "y" ∷ [] }

unfoldable pub one_core_model : SystemModel
one_core_model = record {
  cores = record { name = codes "c0" } ∷ [];
  stimuli = record { name = codes "s10"; kind = Periodic 10 1 0 } ∷ record { name = codes "s20"; kind = Periodic 20 0 0 } ∷ [];
  labels = record { name = codes "x" } ∷ record { name = codes "y" } ∷ [];
  tasks = one_core_a ∷ one_core_b ∷ [];
  chains = chain_ab ∷ chain_ba ∷ [];
  requirements = [];
}
