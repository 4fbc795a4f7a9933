-- Stretches of tasks of a model.
use Rattle.std.specs.Prelude.{ℕ, Option, Some, None, ◌<◌, length}
use Rattle.cl_model.specs.declared.model.SystemModel.{SystemModel}
use Rattle.cl_run_data.specs.declared.stretches.Stretch.{Stretch}

-- an entry is a task of the model, or none
abbrev pub IsTaskOrNone : SystemModel → Option ℕ → Type 0
IsTaskOrNone model None = Unit {0}
IsTaskOrNone model (Some task) = task < length model.tasks

-- a stretch is one of a task of the model, or of none
abbrev pub IsOfTask : SystemModel → Stretch → Type 0
IsOfTask model stretch = IsTaskOrNone model stretch.who
