-- The rows of the tasks of a model: their bars.
use Rattle.std.specs.Prelude.{◌≡◌, ℕ, List, [], map, slice_index_or}
use Rattle.cl_model.specs.{declared.model.SystemModel.SystemModel, ByNumber.{task_at, deadline_of}}
use Rattle.cl_runs.specs.{Run.{Run, jobs_of}, SystemOf.system_of}
use Rattle.cl_picture.specs.{declared.window.Window.Window, Bars.bars}
use Rattle.cl_draw.specs.{declared.{parts.Part.Part, rows.Row.Row}, Parts.{AreParts, AreFinishes}, Items.{part_item, bands}}

-- a row shows the bands of the task's jobs, and on them the parts of what the task executes
pub record IsRowOf (model : SystemModel) (run : Run) (window : Window) (task : ℕ) (row : Row) : Type 0 where
  pub finishes : List ℕ
  pub are_finishes : AreFinishes (system_of model) run task finishes
  pub bands_drawn : row.bands ≡ bars window (bands (jobs_of run task) (deadline_of model task) finishes run.table.ticks)
  pub parts : List Part
  pub are_parts : AreParts (system_of model) run task parts
  pub parts_drawn : row.parts
      ≡ bars window (map (part_item (jobs_of run task) (deadline_of model task) (task_at model task).runnables) parts)

-- what stands past the last row
unfoldable pub no_row : Row
no_row = record { bands = []; parts = [] }

-- the row of a task
abbrev pub row_at : List Row → (task : ℕ) → Row
row_at rows task = slice_index_or rows task no_row
