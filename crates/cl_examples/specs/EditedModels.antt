-- Two models that are edited: the tasks A and B on two cores, with a chain from A to B; and the same two on one core, with
-- a chain back.
use Rattle.std.specs.Prelude.{false, None, [], ◌∷◌, codes}
use Rattle.cl_model.specs.declared.{model.SystemModel.SystemModel, stimulus.StimulusKind.TheVariants.Periodic, task.AccessKind.TheVariants.Implicit}
use Rattle.cl_edit.specs.declared.edit.Edit.{Edit, TheVariants.{Range, Offset, DropChain, Swap}}
use Rattle.cl_examples.specs.ExampleModel.{chain_ab}

-- A writes x each 10 ticks, in 2 to 3 of them; B reads it each 20 ticks, in 4 to 5 of them
unfoldable pub two_cores_model : SystemModel
two_cores_model = record {
  cores = record { name = codes "c0" } ∷ record { name = codes "c1" } ∷ [];
  stimuli = record { name = codes "s10"; kind = Periodic 10 0 0 } ∷ record { name = codes "s20"; kind = Periodic 20 0 0 } ∷ [];
  labels = record { name = codes "x" } ∷ [];
  tasks = record {
    name = codes "A";
    core = codes "c0";
    stimulus = codes "s10";
    priority = 2;
    access = Implicit;
    deadline = None;
    runnables = record { name = codes "a"; least = 2; greatest = 3; whole = false; reads = []; writes = codes "x" ∷ [] } ∷ [];
  } ∷ record {
    name = codes "B";
    core = codes "c1";
    stimulus = codes "s20";
    priority = 1;
    access = Implicit;
    deadline = None;
    runnables = record { name = codes "b"; least = 4; greatest = 5; whole = false; reads = codes "x" ∷ []; writes = [] } ∷ [];
  } ∷ [];
  chains = chain_ab ∷ [];
  requirements = [];
}

-- B stands on the core of A, and writes y, which A reads
unfoldable pub two_chains_model : SystemModel
two_chains_model = record {
  cores = record { name = codes "c0" } ∷ record { name = codes "c1" } ∷ [];
  stimuli = record { name = codes "s10"; kind = Periodic 10 0 0 } ∷ record { name = codes "s20"; kind = Periodic 20 0 0 } ∷ [];
  labels = record { name = codes "x" } ∷ record { name = codes "y" } ∷ [];
  tasks = record {
    name = codes "A";
    core = codes "c0";
    stimulus = codes "s10";
    priority = 2;
    access = Implicit;
    deadline = None;
    runnables = record { name = codes "a"; least = 2; greatest = 3; whole = false; reads = codes "y" ∷ []; writes = codes "x" ∷ [] } ∷ [];
  } ∷ record {
    name = codes "B";
    core = codes "c0";
    stimulus = codes "s20";
    priority = 1;
    access = Implicit;
    deadline = None;
    runnables = record { name = codes "b"; least = 4; greatest = 5; whole = false; reads = codes "x" ∷ []; writes = codes "y" ∷ [] } ∷ [];
  } ∷ [];
  chains = chain_ab ∷ record { name = codes "ba"; runnables = codes "b" ∷ codes "a" ∷ []; labels = codes "y" ∷ [] } ∷ [];
  requirements = [];
}

-- `range b 4 6`
unfoldable pub longer_b : Edit
longer_b = Range (codes "b") 4 6

-- `offset s20 12`
unfoldable pub later_b : Edit
later_b = Offset (codes "s20") 12

-- `drop-chain ab`
unfoldable pub no_chain_ab : Edit
no_chain_ab = DropChain (codes "ab")

-- `swap A B`
unfoldable pub b_above_a : Edit
b_above_a = Swap (codes "A") (codes "B")
