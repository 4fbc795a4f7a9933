-- Models of the same names and labels, whatever else is set: times, kinds, cores, priorities, accesses, deadlines.
use Rattle.std.specs.Prelude.{◌≡◌, false, [], map, None}
use Rattle.cl_model.specs.{declared.{model.SystemModel.SystemModel, task.{AccessKind.TheVariants.Explicit, RunnableDef.RunnableDef, TaskDef.TaskDef}}, Named.stimulus_names, Ranges.IsInRange, ValidNames.stimulus_checks, ValidTasks.{task_checks, deadline_checks}}

-- the name of a runnable and those of its labels, and nothing else of it
abbrev pub named_runnable : RunnableDef → RunnableDef
named_runnable runnable = record runnable { least = 0; greatest = 0; whole = false }

-- the name of a task, that of its stimulus and those of its runnables and their labels, and nothing else of it
abbrev pub named_task : TaskDef → TaskDef
named_task task = record task { core = []; priority = 0; access = Explicit; deadline = None; runnables = map named_runnable task.runnables }

-- the second model has the names and labels of the first, and its cores, chains and requirements
pub record AreNamedAlike (old new : SystemModel) : Type 0 where
  pub cores : new.cores ≡ old.cores
  pub stimuli : stimulus_names new ≡ stimulus_names old
  pub labels : new.labels ≡ old.labels
  pub tasks : map named_task new.tasks ≡ map named_task old.tasks
  pub chains : new.chains ≡ old.chains
  pub requirements : new.requirements ≡ old.requirements

-- the numbers of the model are in range, and its stimuli, tasks and deadlines are refused nothing
pub record PassesButNames (model : SystemModel) : Type 0 where
  pub in_range : IsInRange model
  pub stimuli : stimulus_checks model ≡ []
  pub tasks : task_checks model ≡ []
  pub deadlines : deadline_checks model ≡ []
