-- The refusals of a model by parts, in the order in which they are checked.
use Rattle.std.specs.Prelude.{List, [], ◌∷◌, ◌++◌}
use Rattle.cl_model.specs.{declared.{model.SystemModel.SystemModel, refusal.Refusal.Refusal}, Refusals.{in_order, each}, ValidNames.stimulus_checks, ValidTasks.{task_checks, deadline_checks}, Validity.{chain_check, requirement_check}}

-- M42 to M46
abbrev pub link_checks : SystemModel → List Refusal
link_checks model =
    in_order (deadline_checks model ∷ each (chain_check model) model.chains ∷ each (requirement_check model) model.requirements ∷ [])

-- M27, M28, M47 and M29 to M46
abbrev pub part_checks : SystemModel → List Refusal
part_checks model = stimulus_checks model ++ (task_checks model ++ link_checks model)
