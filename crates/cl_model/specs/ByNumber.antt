-- What a model says of its tasks, chains, requirements and cores, by their numbers. Times are in ticks.
use Rattle.std.specs.Prelude.{ℕ, ◌==◌, false, List, [], length, slice_index_or, filter, sum_by, Option, None, unwrap_or}
use Rattle.std.specs.List.{range_with_len}
use Rattle.cl_model.specs.declared.{model.{SystemModel.SystemModel, CoreDef.CoreDef}, chain.{ChainDef.ChainDef, LengthKind.TheVariants.Reaction, RequirementDef.RequirementDef, RequirementKind.TheVariants.Length}, group.Step.Step, stimulus.StimulusKind.{StimulusKind, TheVariants.Sporadic}}
use Rattle.cl_model.specs.{declared.task.{AccessKind.TheVariants.Explicit, RunnableDef.RunnableDef, TaskDef.TaskDef}, Named.{index_of, core_names, stimulus_names, task_names, chain_names, requirement_names, kind_named}, Timing.{greatest_jitter, deadline_under}}

-- stands for a task past the last one
unfoldable pub no_task : TaskDef
no_task = record { name = []; core = []; stimulus = []; priority = 0; access = Explicit; deadline = None; runnables = [] }

-- stands for a chain past the last one
unfoldable pub no_chain : ChainDef
no_chain = record { name = []; runnables = []; labels = [] }

-- stands for a requirement past the last one
unfoldable pub no_requirement : RequirementDef
no_requirement = record { name = []; chain = []; kind = Length Reaction; most = 0 }

-- stands for a core past the last one
unfoldable pub no_core : CoreDef
no_core = record { name = [] }

-- stands for a runnable past the last one of its task
unfoldable pub no_runnable : RunnableDef
no_runnable = record { name = []; least = 0; greatest = 0; whole = false; reads = []; writes = [] }

-- stands for a stimulus that isn't known
unfoldable pub no_stimulus : StimulusKind
no_stimulus = Sporadic 0 0

-- the task of that number
abbrev pub task_at : SystemModel → (i : ℕ) → TaskDef
task_at model i = slice_index_or model.tasks i no_task

-- the runnable at a place of a task
abbrev pub runnable_at : SystemModel → Step → RunnableDef
runnable_at model step = slice_index_or (task_at model step.task).runnables step.place no_runnable

-- the chain of that number
abbrev pub chain_at : SystemModel → (chain : ℕ) → ChainDef
chain_at model chain = slice_index_or model.chains chain no_chain

-- the requirement of that number
abbrev pub requirement_at : SystemModel → (requirement : ℕ) → RequirementDef
requirement_at model requirement = slice_index_or model.requirements requirement no_requirement

-- the core of that number
abbrev pub core_at : SystemModel → (core : ℕ) → CoreDef
core_at model core = slice_index_or model.cores core no_core

-- the number of the core, the stimulus of that name
abbrev pub core_named : SystemModel → List ℕ → Option ℕ
core_named model name = index_of name (core_names model)

abbrev pub stimulus_named : SystemModel → List ℕ → Option ℕ
stimulus_named model name = index_of name (stimulus_names model)

-- the number of the core that a task names
abbrev pub core_number : SystemModel → TaskDef → ℕ
core_number model task = unwrap_or (index_of task.core (core_names model)) 0

-- the number of the stimulus of that name: 0 where there is none
abbrev pub stimulus_number : SystemModel → List ℕ → ℕ
stimulus_number model name = unwrap_or (index_of name (stimulus_names model)) 0

-- the kind of the stimulus that a task names
abbrev pub stimulus_kind : SystemModel → TaskDef → StimulusKind
stimulus_kind model task = unwrap_or (kind_named model task.stimulus) no_stimulus

-- the greatest execution time of a job of a task
abbrev pub greatest_time : TaskDef → ℕ
greatest_time task = sum_by (λ (runnable : RunnableDef). runnable.greatest) task.runnables

-- ---- of task i

-- the number of its core
abbrev pub core_of : SystemModel → (i : ℕ) → ℕ
core_of model i = core_number model (task_at model i)

-- the kind of its stimulus
abbrev pub stimulus_of : SystemModel → (i : ℕ) → StimulusKind
stimulus_of model i = stimulus_kind model (task_at model i)

-- its deadline, given or not
abbrev pub deadline_of : SystemModel → (i : ℕ) → ℕ
deadline_of model i = deadline_under (stimulus_of model i) (task_at model i)

-- its greatest jitter
abbrev pub jitter_of : SystemModel → (i : ℕ) → ℕ
jitter_of model i = greatest_jitter (stimulus_of model i)

-- the number of the task of that name
abbrev pub task_named : SystemModel → List ℕ → Option ℕ
task_named model name = index_of name (task_names model)

-- the number of the chain of that name
abbrev pub chain_named : SystemModel → List ℕ → Option ℕ
chain_named model name = index_of name (chain_names model)

-- the number of the requirement of that name
abbrev pub requirement_named : SystemModel → List ℕ → Option ℕ
requirement_named model name = index_of name (requirement_names model)

-- the greatest execution time of a job of it
abbrev pub time_of : SystemModel → (i : ℕ) → ℕ
time_of model i = greatest_time (task_at model i)

-- ---- of a core

-- the numbers of its tasks among the first n, in file order
abbrev pub tasks_of_core_below : SystemModel → (n core : ℕ) → List ℕ
tasks_of_core_below model n core = filter (λ i. core_of model i == core) (range_with_len 0 n)

-- the numbers of its tasks, in file order
abbrev pub tasks_of_core : SystemModel → (core : ℕ) → List ℕ
tasks_of_core model core = tasks_of_core_below model (length model.tasks) core
