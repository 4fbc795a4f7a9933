-- How high the heads and the rows of a picture stand. Heights are lengths from the top.
use Rattle.std.specs.Prelude.{ℕ, zero, suc, ◌+◌, ◌*◌, length, map, sum}
use Rattle.std.specs.List.{range_with_len}
use Rattle.cl_model.specs.{declared.model.SystemModel.SystemModel, ByNumber.{core_of, tasks_of_core, tasks_of_core_below}}
use Rattle.cl_draw.specs.declared.places.TheConstants.{FIRST_TOP, HEAD, ROW}

-- the height of a core: its head, and a row for each of its tasks
abbrev pub core_height : SystemModel → (core : ℕ) → ℕ
core_height model core = HEAD + ROW * length (tasks_of_core model core)

-- where the head of a core begins: below the cores before it
unfoldable pub core_top : SystemModel → (core : ℕ) → ℕ
core_top model core = FIRST_TOP + sum (map (core_height model) (range_with_len 0 core))

-- where the row of a task begins: below the head of its core and the rows of the core's tasks before it
abbrev pub row_top : SystemModel → (task : ℕ) → ℕ
row_top model task = core_top model (core_of model task) + HEAD + ROW * length (tasks_of_core_below model task (core_of model task))

-- where the head of the chains begins: below all cores
abbrev pub chains_top : SystemModel → ℕ
chains_top model = core_top model (length model.cores)

-- where the row of a chain begins
abbrev pub chain_top : SystemModel → (chain : ℕ) → ℕ
chain_top model chain = chains_top model + HEAD + ROW * chain

-- where the rows of so many chains end: without a chain, their head isn't there
abbrev pub end_of_chains : SystemModel → (chains : ℕ) → ℕ
end_of_chains model zero = chains_top model
end_of_chains model (suc chains) = chain_top model (suc chains)

-- where the rows end
abbrev pub bottom : SystemModel → ℕ
bottom model = end_of_chains model (length model.chains)
