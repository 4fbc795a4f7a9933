-- What can be drawn of a chain.
use Rattle.std.specs.Prelude.{ℕ, Option, Some, None, ◌*◌, ◌^◌, ◌<◌, ◌≤◌, List, length, All}
use Rattle.cl_model.specs.declared.model.SystemModel.{SystemModel}
use Rattle.cl_picture.specs.Window.{IsPictureWindow}
use Rattle.cl_draw.specs.declared.{chain_lines.Look.Look, stops.{Stop.Stop, Reaction.Reaction}}

-- a chain is drawn in a window, in one of four colours, and at a height that fits
pub record IsLook (look : Look) : Type 0 where
  pub window : IsPictureWindow look.window
  pub colour : look.colour < 4
  pub most : look.y ≤ 3 * 10 ^ 12

-- stops are jobs of so many tasks
abbrev pub AreKnown : (tasks : ℕ) → List Stop → Type 0
AreKnown tasks stops = All (λ (stop : Stop). stop.task < tasks) stops

-- stops are jobs of tasks of the model, and there is one
pub record AreStopsOf (model : SystemModel) (stops : List Stop) : Type 0 where
  pub some : 0 < length stops
  pub known : AreKnown (length model.tasks) stops

-- so are those of a reaction, if there is one
abbrev pub IsDrawableReaction : SystemModel → Option Reaction → Type 0
IsDrawableReaction model None = Unit {0}
IsDrawableReaction model (Some reaction) = AreStopsOf model reaction.stops
