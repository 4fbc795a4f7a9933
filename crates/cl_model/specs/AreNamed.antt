-- The names in a model are of the name grammar.
use Rattle.std.specs.Prelude.{All}
use Rattle.cl_model.specs.{declared.{model.SystemModel.SystemModel, task.{RunnableDef.RunnableDef, TaskDef.TaskDef}, chain.{ChainDef.ChainDef, RequirementDef.RequirementDef}}, Name.IsName}

-- of a runnable: its own and those of its labels
pub record IsRunnableNamed (r : RunnableDef) : Type 0 where
  pub name : IsName r.name
  pub reads : All IsName r.reads
  pub writes : All IsName r.writes

-- of a task: its own, those of its core and its stimulus, and those of its runnables
pub record IsTaskNamed (t : TaskDef) : Type 0 where
  pub name : IsName t.name
  pub core : IsName t.core
  pub stimulus : IsName t.stimulus
  pub runnables : All IsRunnableNamed t.runnables

-- of a chain: its own, and those of its runnables and labels
pub record IsChainNamed (c : ChainDef) : Type 0 where
  pub name : IsName c.name
  pub runnables : All IsName c.runnables
  pub labels : All IsName c.labels

-- of a requirement: its own, and that of its chain
pub record IsRequirementNamed (r : RequirementDef) : Type 0 where
  pub name : IsName r.name
  pub chain : IsName r.chain

-- each name in the model is of the name grammar
pub record AreNamed (m : SystemModel) : Type 0 where
  pub cores : All (λ core. IsName core.name) m.cores
  pub stimuli : All (λ stimulus. IsName stimulus.name) m.stimuli
  pub labels : All (λ label. IsName label.name) m.labels
  pub tasks : All IsTaskNamed m.tasks
  pub chains : All IsChainNamed m.chains
  pub requirements : All IsRequirementNamed m.requirements
