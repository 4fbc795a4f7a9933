-- The room that a sink in memory keeps.
use Rattle.std.specs.Prelude.{ℕ, ◌<◌, ◌≤◌}

-- The bytes written are within the room, which is there already, and a write takes at least one byte.
pub record IsRoomy (written room capacity step : ℕ) : Type 0 where
  pub within : written ≤ room
  pub reserved : room ≤ capacity
  pub positive : 0 < step
