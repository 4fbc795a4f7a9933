-- What is drawn of a run.
use Rattle.std.specs.Prelude.{◌≡◌, ℕ, ◌<◌, length, All}
use Rattle.cl_model.specs.{declared.model.SystemModel.SystemModel, ByNumber.task_at, Validity.IsValid}
use Rattle.cl_runs.specs.Run.{Run}
use Rattle.cl_picture.specs.Window.{IsPictureWindow}
use Rattle.cl_draw.specs.{declared.{rows.Row.Row, drawing.Drawing.Drawing}, Rows.row_at, Reactions.reaction_at, Picture.{AreTaskRows, AreReactions}, Inner.Heights.ArePlaces}
use Rattle.cl_draw.specs.Inner.DrawnBars as bars
use Rattle.cl_draw.specs.Inner.Looks as looks

-- the bars of a row can be drawn
pub record IsDrawableRow (model : SystemModel) (task : ℕ) (row : Row) : Type 0 where
  pub bands : All (bars.IsDrawableBar (task_at model task)) row.bands
  pub parts : All (bars.IsDrawableBar (task_at model task)) row.parts

-- the rows and the reactions of a run in a window, and where they stand
pub record IsDrawing (model : SystemModel) (run : Run) (drawing : Drawing) : Type 0 where
  pub valid : IsValid model
  pub window : IsPictureWindow drawing.window
  pub places : ArePlaces model drawing.places
  pub row_count : length drawing.rows ≡ length model.tasks
  pub rows : AreTaskRows model run drawing.window drawing.rows
  pub drawable_rows : (task : ℕ) → task < length model.tasks → IsDrawableRow model task (row_at drawing.rows task)
  pub reaction_count : length drawing.reactions ≡ length model.chains
  pub reactions : AreReactions model run drawing.reactions
  pub drawable_reactions : (chain : ℕ) → chain < length model.chains → looks.IsDrawableReaction model (reaction_at drawing.reactions chain)
