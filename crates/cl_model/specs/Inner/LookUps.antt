-- What a valid model keeps beside the plain one, so that it answers in constant time.
use Rattle.std.specs.Prelude.{◌≡◌, ℕ, ◌<◌, nat_lt, List, [], ◌∷◌, ◌++◌, length, map, count_by, remove, insert, slice_index, slice_index_or, slice_set}
use Rattle.std.specs.List.{range_with_len}
use Rattle.cl_model.specs.{declared.{chain.ChainDef.ChainDef, look_ups.{LookUps.LookUps, SectionNames.SectionNames, TaskTables.TaskTables}, model.SystemModel.SystemModel, task.TaskDef.TaskDef, valid_model.ValidModel.TheInside.Inside}, Groups.{groups, groups_of}, Named.core_names}
use Rattle.cl_model.specs.{Named.{stimulus_names, task_names, chain_names, requirement_names}, NameSets.names_with, ByNumber.{core_number, stimulus_number, greatest_time, tasks_of_core}, Inner.StepTable.{step_in, AreStepsOf, StepsAdded, StepsDropped}, TaskNumbers.number_without}
use Rattle.cl_model.specs.{TaskNumbers.group_without, Validity.IsValid}

-- the names are those of the entries of each section
pub record AreNamesOf (model : SystemModel) (kept : SectionNames) : Type 0 where
  pub cores : kept.cores ≡ core_names model
  pub stimuli : kept.stimuli ≡ stimulus_names model
  pub tasks : kept.tasks ≡ task_names model
  pub chains : kept.chains ≡ chain_names model
  pub requirements : kept.requirements ≡ requirement_names model

-- what is kept is that of each task and of each core
pub record AreTaskTablesOf (model : SystemModel) (kept : TaskTables) : Type 0 where
  pub cores : kept.cores.items ≡ map (core_number model) model.tasks
  pub stimuli : kept.stimuli.items ≡ map (λ task. stimulus_number model task.stimulus) model.tasks
  pub times : kept.times.items ≡ map greatest_time model.tasks
  pub on_cores : kept.on_cores.items ≡ map (tasks_of_core model) (range_with_len 0 (length model.cores))

-- what is kept is that of the sections, the tasks, the runnables and the chains of the model
pub record AreLookUpsOf (model : SystemModel) (kept : LookUps) : Type 0 where
  pub names : AreNamesOf model kept.names
  pub tasks : AreTaskTablesOf model kept.tasks
  pub steps : AreStepsOf model.tasks kept.steps
  pub groups : kept.groups.items ≡ map (groups_of model) model.chains

-- the model is valid, and what is kept beside it is its own
pub record HasItsLookUps (a : Inside) : Type 0 where
  pub valid : IsValid a.model
  pub look_ups : AreLookUpsOf a.model a.look_ups

-- ---- changes of what is kept

-- the tables with a chain behind the others
pub record ChainAdded (chain : ChainDef) (old new : LookUps) : Type 0 where
  pub names : new.names ≡ record old.names { chains = names_with chain.name old.names.chains }
  pub tasks : new.tasks ≡ old.tasks
  pub steps : new.steps ≡ old.steps
  pub groups : new.groups.items ≡ old.groups.items ++ groups (map (step_in old.steps) chain.runnables) ∷ []

-- the tables without a chain
pub record ChainDropped (chain : ℕ) (old new : LookUps) : Type 0 where
  pub names : new.names ≡ record old.names { chains = remove old.names.chains chain }
  pub tasks : new.tasks ≡ old.tasks
  pub steps : new.steps ≡ old.steps
  pub groups : new.groups.items ≡ remove old.groups.items chain

-- the tables with a task behind the others, of which core, stimulus and execution time are these
pub record RowAdded (core stimulus time : ℕ) (old new : TaskTables) : Type 0 where
  pub cores : new.cores.items ≡ old.cores.items ++ core ∷ []
  pub stimuli : new.stimuli.items ≡ old.stimuli.items ++ stimulus ∷ []
  pub times : new.times.items ≡ old.times.items ++ time ∷ []
  pub on_cores : new.on_cores.items ≡ slice_set old.on_cores.items core (slice_index_or old.on_cores.items core [] ++ length old.cores.items ∷ [])

pub record TaskAdded (task : TaskDef) (core stimulus : ℕ) (old new : LookUps) : Type 0 where
  pub names : new.names ≡ record old.names { tasks = names_with task.name old.names.tasks }
  pub tasks : RowAdded core stimulus (greatest_time task) old.tasks new.tasks
  pub steps : StepsAdded (length old.tasks.cores.items) task old.steps new.steps
  pub groups : new.groups ≡ old.groups

-- the place of a task among others that stand in file order
abbrev pub place_among : List ℕ → (task : ℕ) → ℕ
place_among tasks task = count_by (λ other. nat_lt other task) tasks

-- the tasks that are kept for the core of a task
abbrev pub beside : TaskTables → (task : ℕ) → List ℕ
beside tables task = slice_index_or tables.on_cores.items (slice_index tables.cores.items task) []

-- a task stands among them
pub record IsListed (tables : TaskTables) (task : ℕ) : Type 0 where
  pub core : slice_index tables.cores.items task < length tables.on_cores.items
  pub place : place_among (beside tables task) task < length (beside tables task)

-- the tasks of each core without a task, and with it on another core
abbrev pub lists_without : TaskTables → (task : ℕ) → List (List ℕ)
lists_without tables task = slice_set tables.on_cores.items (slice_index tables.cores.items task) (remove (beside tables task) (place_among (beside tables task) task))

abbrev pub lists_with : List (List ℕ) → (task core : ℕ) → List (List ℕ)
lists_with lists task core = let tasks = slice_index_or lists core [] in slice_set lists core (insert tasks (place_among tasks task) task)

-- the tables with a task on another core
pub record TaskMoved (task core : ℕ) (old new : TaskTables) : Type 0 where
  pub cores : new.cores.items ≡ slice_set old.cores.items task core
  pub stimuli : new.stimuli ≡ old.stimuli
  pub times : new.times ≡ old.times
  pub on_cores : new.on_cores.items ≡ lists_with (lists_without old task) task core

-- a task has its row, and stands among those of its core
pub record HasRow (tables : TaskTables) (task : ℕ) : Type 0 where
  pub core : task < length tables.cores.items
  pub stimulus : task < length tables.stimuli.items
  pub time : task < length tables.times.items
  pub listed : IsListed tables task

-- the tables without a task
pub record RowDropped (task : ℕ) (old new : TaskTables) : Type 0 where
  pub cores : new.cores.items ≡ remove old.cores.items task
  pub stimuli : new.stimuli.items ≡ remove old.stimuli.items task
  pub times : new.times.items ≡ remove old.times.items task
  pub on_cores : new.on_cores.items ≡ map (map (number_without task)) (lists_without old task)

-- the tables without a task that is in no chain, and whose runnables have the numbers from first up to last
pub record TaskDropped (task first last : ℕ) (old new : LookUps) : Type 0 where
  pub names : new.names ≡ record old.names { tasks = remove old.names.tasks task }
  pub tasks : RowDropped task old.tasks new.tasks
  pub steps : StepsDropped task first last old.steps new.steps
  pub groups : new.groups.items ≡ map (map (group_without task)) old.groups.items
