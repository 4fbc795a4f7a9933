-- How long the text of a picture may be.
use Rattle.std.specs.Prelude.{ℕ, ◌+◌, ◌*◌, List, length, sum_by}
use Rattle.std.specs.List.{range_with_len}
use Rattle.cl_model.specs.{declared.model.SystemModel.SystemModel, Groups.groups_at}
use Rattle.cl_draw.specs.{declared.{room.TheConstants.{MOST_OF_PICTURE, MOST_OF_CORE, MOST_OF_TASK, MOST_OF_BAR, MOST_OF_CHAIN, MOST_OF_GROUP}, rows.Row.Row}, Rows.row_at}

-- how many bars the row of a task has
abbrev pub bars_of_task : List Row → (task : ℕ) → ℕ
bars_of_task rows task = length (row_at rows task).bands + length (row_at rows task).parts

-- how many bars the rows of all tasks have
abbrev pub bar_count : SystemModel → List Row → ℕ
bar_count model rows = sum_by (bars_of_task rows) (range_with_len 0 (length model.tasks))

-- how many groups a chain has
abbrev pub groups_of_chain : SystemModel → (chain : ℕ) → ℕ
groups_of_chain model chain = length (groups_at model chain)

-- how many groups all chains have
abbrev pub group_count : SystemModel → ℕ
group_count model = sum_by (groups_of_chain model) (range_with_len 0 (length model.chains))

-- the most bytes of a picture with so many bars
abbrev pub most_length : SystemModel → (bars : ℕ) → ℕ
most_length model bars =
    MOST_OF_PICTURE + MOST_OF_CORE * length model.cores + MOST_OF_TASK * length model.tasks + MOST_OF_BAR * bars
    + MOST_OF_CHAIN * length model.chains + MOST_OF_GROUP * group_count model
