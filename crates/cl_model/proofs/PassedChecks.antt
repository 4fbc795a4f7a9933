-- The checks that a valid model has passed.
use Rattle.std.proofs.Common.{◌≡◌, ℕ, ◌<◌, [], ◌∷◌, length, get_or}
use Rattle.cl_model.specs.{declared.{model.SystemModel.SystemModel, task.TaskDef.TaskDef}, Refusals.each, ValidNames.{name_checks, stimulus_checks}, ValidTasks.{naming_checks, task_check, task_checks, deadline_checks}, Validity.{IsValid, chain_check, requirement_check, refusals_of}}
use Rattle.cl_model.proofs.{Refused.{none_before, each_none}, NoRefusals.all_none}

-- each part of the list of refusals is empty
record Passed (model : SystemModel) : Type 0 where
  names : name_checks model ≡ []
  stimuli : stimulus_checks model ≡ []
  tasks : task_checks model ≡ []
  deadlines : deadline_checks model ≡ []
  chains : each (chain_check model) model.chains ≡ []
  requirements : each (requirement_check model) model.requirements ≡ []

passed : (model : SystemModel) → IsValid model → Passed model
unfolding refusals_of
passed model valid =
    let parts = all_none (name_checks model ∷ stimulus_checks model ∷ task_checks model ∷ deadline_checks model
    ∷ each (chain_check model) model.chains ∷ each (requirement_check model) model.requirements ∷ []) valid.accepted in
    record { names = parts.0; stimuli = parts.1.0; tasks = parts.1.1.0; deadlines = parts.1.1.1.0; chains = parts.1.1.1.1.0; requirements = parts.1.1.1.1.1.0 }

-- M20 to M26
pub names_pass : (model : SystemModel) → IsValid model → name_checks model ≡ []
names_pass model valid = (passed model valid).names

-- M27, M28 and M47
pub stimuli_pass : (model : SystemModel) → IsValid model → stimulus_checks model ≡ []
stimuli_pass model valid = (passed model valid).stimuli

-- M29 to M41
pub tasks_pass : (model : SystemModel) → IsValid model → task_checks model ≡ []
tasks_pass model valid = (passed model valid).tasks

-- M42
pub deadlines_pass : (model : SystemModel) → IsValid model → deadline_checks model ≡ []
deadlines_pass model valid = (passed model valid).deadlines

-- M43 to M45
pub chains_pass : (model : SystemModel) → IsValid model → each (chain_check model) model.chains ≡ []
chains_pass model valid = (passed model valid).chains

-- M46
pub requirements_pass : (model : SystemModel) → IsValid model → each (requirement_check model) model.requirements ≡ []
requirements_pass model valid = (passed model valid).requirements

-- M29 to M35, for one task
pub naming_passes : (model : SystemModel) → task_checks model ≡ [] → (i : ℕ) (d : TaskDef) → i < length model.tasks → naming_checks model i (get_or model.tasks i d) ≡ []
unfolding task_check
naming_passes model none i d lt = none_before _ _ (each_none (task_check model) model.tasks i d none lt)
