-- A text of a model.
use Rattle.std.specs.Prelude.{◌≡◌, ℕ, List, Ok}
use Rattle.cl_model.specs.{declared.model.SystemModel.SystemModel, Reading.{model_of, version_of}}
use Rattle.cl_write.specs.Writing.{version_for}

-- a text of the least version from 2 on that can say the model, which is read as the model
pub record IsTextOf (model : SystemModel) (text : List ℕ) : Type 0 where
  pub reads : model_of text ≡ Ok model
  pub version : version_of text ≡ version_for model
