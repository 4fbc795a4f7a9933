-- What an edit that adds or drops a task or a chain can break in a valid model. The changed model is refused by these
-- checks alone, in this order.
use Rattle.std.specs.Prelude.{ℕ, ◌&&◌, List, [], ◌∷◌, length}
use Rattle.cl_model.specs.{declared.{chain.{ChainDef.ChainDef, RequirementDef.RequirementDef}, model.SystemModel.SystemModel, place.Place.Place, refusal.{Code.TheVariants.{M23, M24, M25, M42, M44, M46}, Refusal.Refusal}, task.TaskDef.TaskDef}, ByNumber.{task_at, chain_at}, Named.same_name}
use Rattle.cl_model.specs.{Named.{has_name, task_names, chain_names, runnable_names, all_runnables}, Place.{entry_of, at_key, at_sub, at_spot}, Refusals.{when, in_order, each}, ValidNames.repeats, ValidTasks.{task_key, task_check, is_outpaced_by, deadline_check}, Validity.chain_check}
use Rattle.cl_model.specs.Changes.{with_new_task}
use Rattle.cl_model.specs.declared.place.Part.TheVariants as part
use Rattle.cl_model.specs.declared.place.Key.TheVariants as key

-- ---- a new task, which gets the next number

-- M23: no task has its name
abbrev pub new_task_name_check : SystemModel → TaskDef → List Refusal
new_task_name_check model task = when (has_name task.name (task_names model)) M23 (task_key (length model.tasks) key.Name)

-- M24: no runnable of another task, and no earlier one of its own, has the name of one of its runnables
abbrev pub new_runnables_check : SystemModel → TaskDef → List Refusal
new_runnables_check model task =
    repeats M24 (λ p. at_key key.Name (at_sub p (entry_of part.Task (length model.tasks)))) (runnable_names (all_runnables model.tasks)) (runnable_names task.runnables)

-- M42: the deadline of task i doesn't span too many distances of a new task above it
abbrev pub below_new_check : SystemModel → TaskDef → ℕ → TaskDef → List Refusal
below_new_check model new i task = when (same_name task.core new.core && is_outpaced_by model task new) M42 (task_key i key.Deadline)

-- M23 and M24, M29 to M41 for the new task, and M42 for the tasks below it and then for itself
abbrev pub new_task_checks : SystemModel → TaskDef → List Refusal
new_task_checks model task =
    in_order (new_task_name_check model task
    ∷ new_runnables_check model task
    ∷ task_check (with_new_task model task) (length model.tasks) task
    ∷ each (below_new_check model task) model.tasks
    ∷ deadline_check (with_new_task model task) (length model.tasks) task
    ∷ [])

-- ---- a dropped task

-- M44: step k of a chain isn't a runnable of the task that is dropped
abbrev pub kept_step_check : TaskDef → Place → ℕ → List ℕ → List Refusal
kept_step_check dropped place k name = when (has_name name (runnable_names dropped.runnables)) M44 (at_spot k place)

-- M44, for each step of chain c
abbrev pub kept_steps_check : TaskDef → ℕ → ChainDef → List Refusal
kept_steps_check dropped c chain = each (kept_step_check dropped (at_key key.Runnables (entry_of part.Chain c))) chain.runnables

-- M44, for each chain
abbrev pub dropped_task_checks : SystemModel → (task : ℕ) → List Refusal
dropped_task_checks model task = each (kept_steps_check (task_at model task)) model.chains

-- ---- chains

-- M25: no chain has the name of a new one
abbrev pub new_chain_name_check : SystemModel → ChainDef → List Refusal
new_chain_name_check model chain =
    when (has_name chain.name (chain_names model)) M25 (at_key key.Name (entry_of part.Chain (length model.chains)))

-- M25, and M43 to M45, for a new chain, which gets the next number
abbrev pub new_chain_checks : SystemModel → ChainDef → List Refusal
new_chain_checks model chain =
    in_order (new_chain_name_check model chain
    ∷ chain_check model (length model.chains) chain
    ∷ [])

-- M46: requirement i doesn't name the chain that is dropped
abbrev pub kept_chain_check : List ℕ → ℕ → RequirementDef → List Refusal
kept_chain_check chain i requirement = when (same_name chain requirement.chain) M46 (at_key key.Chain (entry_of part.Requirement i))

-- M46, for each requirement
abbrev pub dropped_chain_checks : SystemModel → (chain : ℕ) → List Refusal
dropped_chain_checks model chain = each (kept_chain_check (chain_at model chain).name) model.requirements
