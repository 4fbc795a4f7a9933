-- The ranges of a model: how many entries each part may have, and which numbers. Times are in ticks.
use Rattle.std.specs.Prelude.{ℕ, ◌≤◌, length, All, IfSome}
use Rattle.cl_model.specs.declared.limits.TheConstants.{MOST_TICKS, MOST_REQUIRED, MOST_PRIORITY, MOST_CORES, MOST_STIMULI, MOST_LABELS, MOST_TASKS, MOST_RUNNABLES, MOST_ACCESSES, MOST_CHAINS, MOST_STEPS, MOST_HOPS, MOST_REQUIREMENTS, LEAST_JOBS_OF_BURST, MOST_JOBS_OF_BURST}
use Rattle.cl_model.specs.declared.{model.SystemModel.SystemModel, stimulus.StimulusKind.{StimulusKind, TheVariants.{Periodic, Sporadic, Burst}}, task.{RunnableDef.RunnableDef, TaskDef.TaskDef}, chain.ChainDef.ChainDef}

-- a time from 1 up
abbrev pub IsTime : ℕ → Type 0
IsTime n = (1 ≤ n) × (n ≤ MOST_TICKS)

-- how many jobs a burst has
abbrev pub IsBurstCount : ℕ → Type 0
IsBurstCount n = (LEAST_JOBS_OF_BURST ≤ n) × (n ≤ MOST_JOBS_OF_BURST)

-- the numbers of a kind of stimulus
abbrev pub IsKindInRange : StimulusKind → Type 0
IsKindInRange (Periodic period offset jitter) = IsTime period × (offset ≤ MOST_TICKS) × (jitter ≤ MOST_TICKS)
IsKindInRange (Sporadic least greatest) = IsTime least × IsTime greatest
IsKindInRange (Burst period offset count distance) = IsTime period × (offset ≤ MOST_TICKS) × IsBurstCount count × IsTime distance

-- the times of a runnable, and how many labels it reads and writes
pub record IsRunnableInRange (r : RunnableDef) : Type 0 where
  pub least : IsTime r.least
  pub greatest : IsTime r.greatest
  pub reads : length r.reads ≤ MOST_ACCESSES
  pub writes : length r.writes ≤ MOST_ACCESSES

-- the numbers of a task, and how many runnables it has
pub record IsTaskInRange (t : TaskDef) : Type 0 where
  pub priority : t.priority ≤ MOST_PRIORITY
  pub deadline : IfSome t.deadline IsTime
  pub count : length t.runnables ≤ MOST_RUNNABLES
  pub runnables : All IsRunnableInRange t.runnables

-- how many runnables and labels a chain has
pub record IsChainInRange (c : ChainDef) : Type 0 where
  pub runnables : length c.runnables ≤ MOST_STEPS
  pub labels : length c.labels ≤ MOST_HOPS

-- how many entries each section has
pub record IsCountInRange (m : SystemModel) : Type 0 where
  pub cores : length m.cores ≤ MOST_CORES
  pub stimuli : length m.stimuli ≤ MOST_STIMULI
  pub labels : length m.labels ≤ MOST_LABELS
  pub tasks : length m.tasks ≤ MOST_TASKS
  pub chains : length m.chains ≤ MOST_CHAINS
  pub requirements : length m.requirements ≤ MOST_REQUIREMENTS

-- each section has few enough entries, and each entry is in range
pub record IsInRange (m : SystemModel) : Type 0 where
  pub counts : IsCountInRange m
  pub stimuli : All (λ s. IsKindInRange s.kind) m.stimuli
  pub tasks : All IsTaskInRange m.tasks
  pub chains : All IsChainInRange m.chains
  pub requirements : All (λ r. r.most ≤ MOST_REQUIRED) m.requirements
