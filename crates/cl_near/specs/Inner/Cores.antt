-- Cores that are marked by their numbers.
use Rattle.std.specs.Prelude.{◌≡◌, ℕ, ◌<◌, Bool, true, List}
use Rattle.cl_model.specs.{declared.{group.Group.Group, model.SystemModel.SystemModel}, ByNumber.core_of, Groups.group_at}
use Rattle.cl_run_data.specs.Parts.{is_among}

-- the cores of the tasks of the first groups are marked
abbrev pub AreMarked : SystemModel → List Group → (count : ℕ) → (cores : List Bool) → Type 0
AreMarked model groups count cores =
    (place : ℕ) → place < count → is_among cores (core_of model (group_at groups place).task) ≡ true
