-- Names in lists. A name stands for the first entry that has it.
use Rattle.std.specs.Prelude.{ℕ, Bool, false, nat_eq, List, map, filter, position, slice_get, Option}
use Rattle.std.specs.List.{list_any, flat_map}
use Rattle.std.specs.Option.{option_map, option_and_then, option_map_or}
use Rattle.std.specs.Cmp.Lexicographic.{pointwise}
use Rattle.cl_model.specs.declared.{model.SystemModel.SystemModel, stimulus.StimulusKind.StimulusKind, task.{RunnableDef.RunnableDef, TaskDef.TaskDef}}

-- whether two names are the same, byte by byte
abbrev pub same_name : List ℕ → List ℕ → Bool
same_name = pointwise nat_eq

-- whether a name is in a list
abbrev pub has_name : List ℕ → List (List ℕ) → Bool
has_name name names = list_any (same_name name) names

-- the place of a name in a list
abbrev pub index_of : List ℕ → List (List ℕ) → Option ℕ
index_of name names = position (same_name name) names

-- the entry whose name has that place
abbrev pub entry_named : {X : Type 0} → List ℕ → List (List ℕ) → List X → Option X
entry_named name names entries = option_and_then (slice_get entries) (index_of name names)

-- whether there is a value, and it passes the test
abbrev pub is_some_and : {X : Type 0} → Option X → (X → Bool) → Bool
is_some_and value test = option_map_or test value false

-- ---- the names of a model, by section

abbrev pub core_names : SystemModel → List (List ℕ)
core_names model = map (λ core. core.name) model.cores

abbrev pub stimulus_names : SystemModel → List (List ℕ)
stimulus_names model = map (λ stimulus. stimulus.name) model.stimuli

abbrev pub label_names : SystemModel → List (List ℕ)
label_names model = map (λ label. label.name) model.labels

abbrev pub task_names : SystemModel → List (List ℕ)
task_names model = map (λ task. task.name) model.tasks

abbrev pub chain_names : SystemModel → List (List ℕ)
chain_names model = map (λ chain. chain.name) model.chains

abbrev pub requirement_names : SystemModel → List (List ℕ)
requirement_names model = map (λ requirement. requirement.name) model.requirements

abbrev pub runnable_names : List RunnableDef → List (List ℕ)
runnable_names runnables = map (λ runnable. runnable.name) runnables

-- ---- what names stand for

-- the kind of the stimulus of that name
abbrev pub kind_named : SystemModel → List ℕ → Option StimulusKind
kind_named model name = option_map (λ stimulus. stimulus.kind) (entry_named name (stimulus_names model) model.stimuli)

-- the tasks of the core of that name
abbrev pub tasks_on : List ℕ → List TaskDef → List TaskDef
tasks_on core tasks = filter (λ task. same_name core task.core) tasks

-- the runnables of all tasks, in order
abbrev pub all_runnables : List TaskDef → List RunnableDef
all_runnables tasks = flat_map (λ task. task.runnables) tasks

-- the runnable of that name, of any task
abbrev pub runnable_named : SystemModel → List ℕ → Option RunnableDef
runnable_named model name = entry_named name (runnable_names (all_runnables model.tasks)) (all_runnables model.tasks)

-- the labels that the runnables write
abbrev pub labels_written : List RunnableDef → List (List ℕ)
labels_written runnables = flat_map (λ runnable. runnable.writes) runnables
