-- The picture of a window of a run.
use Rattle.std.specs.Prelude.{◌≡◌, ℕ, zero, suc, Option, ◌+◌, ◌%◌, ◌<◌, List, [], ◌∷◌, ◌++◌, length, map, codes}
use Rattle.std.specs.List.{flat_map, range_with_len}
use Rattle.cl_model.specs.{declared.model.SystemModel.SystemModel, ByNumber.{task_at, chain_at, core_at, tasks_of_core}}
use Rattle.cl_runs.specs.Run.{Run}
use Rattle.cl_picture.specs.{declared.window.Window.Window, Pieces.{Fixed, Number, Name, Element, print}, Axis.axis, Frame.{begin, end}}
use Rattle.cl_draw.specs.{declared.{chain_lines.Look.Look, rows.Row.Row, stops.Reaction.Reaction}, Places.{core_top, row_top, chains_top, chain_top, bottom}, Rows.{IsRowOf, row_at}, RowLines.row_lines, Reactions.{IsDrawnReaction, reaction_at}, ChainLines.drawn_chain_lines}

-- ---- heads and row_names

-- the head of a core
abbrev pub core_head : SystemModel → (core : ℕ) → Element
core_head model core =
    Fixed (codes "<text class=\"h\" x=\"160\" y=\"") ∷ Number (core_top model core + 260) ∷ Fixed (codes "\">")
    ∷ Name (core_at model core).name ∷ Fixed (codes "</text>") ∷ []

-- the head of the chains
abbrev pub chains_head_line : SystemModel → Element
chains_head_line model =
    Fixed (codes "<text class=\"h\" x=\"160\" y=\"") ∷ Number (chains_top model + 260) ∷ Fixed (codes "\">longest reactions</text>") ∷ []

-- so where there is a chain
abbrev pub chains_head : SystemModel → (chains : ℕ) → List Element
chains_head model zero = []
chains_head model (suc chains) = chains_head_line model ∷ []

-- all heads
unfoldable pub heads : SystemModel → List Element
heads model = map (core_head model) (range_with_len 0 (length model.cores)) ++ chains_head model (length model.chains)

-- the name of a row from a height on
abbrev pub row_name_line : (y : ℕ) → (name : List ℕ) → Element
row_name_line y name =
    Fixed (codes "<text class=\"n\" x=\"300\" y=\"") ∷ Number (y + 230) ∷ Fixed (codes "\">") ∷ Name name ∷ Fixed (codes "</text>") ∷ []

-- its ground
abbrev pub row_ground_line : (y : ℕ) → Element
row_ground_line y = Fixed (codes "<rect class=\"s\" x=\"2000\" y=\"") ∷ Number (y + 20) ∷ Fixed (codes "\" width=\"9600\" height=\"360\"/>") ∷ []

abbrev pub name_lines : (y : ℕ) → (name : List ℕ) → List Element
name_lines y name = row_name_line y name ∷ row_ground_line y ∷ []

abbrev pub task_name : SystemModel → (task : ℕ) → List Element
task_name model task = name_lines (row_top model task) (task_at model task).name

abbrev pub chain_name : SystemModel → (chain : ℕ) → List Element
chain_name model chain = name_lines (chain_top model chain) (chain_at model chain).name

-- what is said of each task, core by core
abbrev pub by_core : SystemModel → (lines : ℕ → List Element) → (core : ℕ) → List Element
by_core model lines core = flat_map lines (tasks_of_core model core)

abbrev pub by_cores : SystemModel → (lines : ℕ → List Element) → List Element
by_cores model lines = flat_map (by_core model lines) (range_with_len 0 (length model.cores))

-- the row_names of all rows
unfoldable pub row_names : SystemModel → List Element
row_names model = by_cores model (task_name model) ++ flat_map (chain_name model) (range_with_len 0 (length model.chains))

-- ---- rows

-- the row of a task
abbrev pub task_elements : SystemModel → Run → Window → List Row → (task : ℕ) → List Element
task_elements model run window rows task = row_lines model run window task (row_top model task) (row_at rows task)

-- how a chain is drawn: its colour is one of four, in turn
abbrev pub look_of : SystemModel → Window → (chain : ℕ) → Look
look_of model window chain = record { window = window; colour = chain % 4; y = chain_top model chain }

-- the row of a chain
abbrev pub chain_elements : SystemModel → Window → List (Option Reaction) → (chain : ℕ) → List Element
chain_elements model window reactions chain = drawn_chain_lines model (look_of model window chain) (chain_at model chain).name (reaction_at reactions chain)

-- ---- the picture

-- the picture of these rows and reactions
unfoldable pub picture : SystemModel → Run → Window → List Row → List (Option Reaction) → List Element
picture model run window rows reactions =
    begin window run.table.ticks (bottom model + 460) ++ heads model ++ row_names model ++ axis window (bottom model)
    ++ by_cores model (task_elements model run window rows)
    ++ flat_map (chain_elements model window reactions) (range_with_len 0 (length model.chains)) ++ end (bottom model)

-- the rows of all tasks of a run
abbrev pub AreTaskRows : SystemModel → Run → Window → List Row → Type 0
AreTaskRows model run window rows = (task : ℕ) → task < length model.tasks → IsRowOf model run window task (row_at rows task)

-- the longest reactions of all chains
abbrev pub AreReactions : SystemModel → Run → List (Option Reaction) → Type 0
AreReactions model run reactions = (chain : ℕ) → chain < length model.chains → IsDrawnReaction model run chain (reaction_at reactions chain)

-- a window from one tick to another
abbrev pub window_between : (from to : ℕ) → Window
window_between from to = record { from = from; to = to }

-- the text is the picture of the ticks of a run from one to another
pub record IsPictureOf (model : SystemModel) (run : Run) (from to : ℕ) (text : List ℕ) : Type 0 where
  pub rows : List Row
  pub are_rows : AreTaskRows model run (window_between from to) rows
  pub reactions : List (Option Reaction)
  pub are_reactions : AreReactions model run reactions
  pub printed : text ≡ print (picture model run (window_between from to) rows reactions)
