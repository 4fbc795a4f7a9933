-- Where heads and rows begin, as lists.
use Rattle.std.specs.Prelude.{◌≡◌, ℕ, ◌+◌, ◌<◌, ◌≤◌, List, length, slice_index}
use Rattle.cl_model.specs.declared.model.SystemModel.{SystemModel}
use Rattle.cl_draw.specs.{declared.places.{Places.Places, TheConstants.MOST_HEIGHT}, Places.{core_top, row_top}}

-- where the heads of the cores begin, and where the rows of the last one end
pub record AreCoreTops (model : SystemModel) (tops : List ℕ) : Type 0 where
  pub count : length tops ≡ length model.cores + 1
  pub each : (core : ℕ) → core ≤ length model.cores → slice_index tops core ≡ core_top model core
  pub most : (core : ℕ) → core ≤ length model.cores → slice_index tops core ≤ MOST_HEIGHT

-- where the rows of the tasks begin
pub record AreRowTops (model : SystemModel) (tops : List ℕ) : Type 0 where
  pub count : length tops ≡ length model.tasks
  pub each : (task : ℕ) → task < length model.tasks → slice_index tops task ≡ row_top model task
  pub most : (task : ℕ) → task < length model.tasks → slice_index tops task ≤ MOST_HEIGHT

pub record ArePlaces (model : SystemModel) (places : Places) : Type 0 where
  pub cores : AreCoreTops model places.cores
  pub tasks : AreRowTops model places.tasks
