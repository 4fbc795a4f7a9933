-- What checks keep for later ones: the names of a model, what its tasks take of their cores, and what its runnables
-- read and write.
use Rattle.std.specs.Prelude.{ℕ, List, [], map}
use Rattle.cl_model.specs.{declared.{model.SystemModel.SystemModel, task.{RunnableDef.RunnableDef, TaskDef.TaskDef}}, Named.{core_names, stimulus_names, label_names, chain_names, runnable_names, kind_named, tasks_on, all_runnables, labels_written}}
use Rattle.cl_valid.specs.declared.{names.Names.Names, runnables.LabelUse.LabelUse, shares.Share.Share, tasks.TasksSoFar.TasksSoFar}

-- the names that later checks look up
abbrev pub names_of : SystemModel → Names
names_of model = record {
  cores = core_names model;
  stimuli = stimulus_names model;
  labels = label_names model;
  runnables = runnable_names (all_runnables model.tasks);
  chains = chain_names model;
}

-- no names
abbrev pub no_names : Names
no_names = record { cores = []; stimuli = []; labels = []; runnables = []; chains = [] }

-- what a runnable reads and writes
abbrev pub use_of : RunnableDef → LabelUse
use_of runnable = record { reads = runnable.reads; writes = runnable.writes }

-- what each of these runnables reads and writes
abbrev pub uses_of : List RunnableDef → List LabelUse
uses_of runnables = map use_of runnables

-- what a task takes of its core
abbrev pub share_of : SystemModel → TaskDef → Share
share_of model task = record { priority = task.priority; kind = kind_named model task.stimulus }

-- what these tasks take of a core
abbrev pub shares_on : SystemModel → List TaskDef → List ℕ → List Share
shares_on model tasks core = map (share_of model) (tasks_on core tasks)

-- what these tasks take of each core
abbrev pub shares_by_core : SystemModel → List TaskDef → List (List Share)
shares_by_core model tasks = map (shares_on model tasks) (core_names model)

-- what is kept of these tasks
abbrev pub kept_of : SystemModel → List TaskDef → TasksSoFar
kept_of model tasks = record {
  shares = shares_by_core model tasks;
  uses = record { written = labels_written (all_runnables tasks); each = uses_of (all_runnables tasks) };
}
