-- The text of the headroom of a model: a title, and the percentage where there is one.
use Rattle.std.specs.Prelude.{◌≡◌, ℕ, List, ◌++◌, codes, decimal, Option, Some, None, IfSome}
use Rattle.cl_text.specs.Line.{line}
use Rattle.cl_model.specs.declared.model.SystemModel.{SystemModel}
use Rattle.cl_runs.specs.Requirements.{IsInTime}
use Rattle.cl_scale.specs.Scaled.{scaled}
use Rattle.cl_tune.specs.Headroom.{IsHeadroom}

-- the line of an answer
abbrev pub percent_line : Option ℕ → List ℕ
percent_line (Some percent) = line (codes "percent " ++ decimal percent)
percent_line None = line (codes "none")

-- the text of an answer
unfoldable pub headroom_text : Option ℕ → List ℕ
headroom_text percent = line (codes "chainlat headroom 1") ++ percent_line percent

-- the text is that of the model's headroom
pub record IsHeadroomTextOf (model : SystemModel) (text : List ℕ) : Type 0 where
  pub percent : Option ℕ
  pub is : IsHeadroom model percent
  pub printed : text ≡ headroom_text percent

-- The text is the headroom of the model, and at the percentage that it has, if any, the model is in time: in every legal
-- run, of any length, all deadlines are met and each requirement is kept.
pub record IsSafeHeadroomText (model : SystemModel) (text : List ℕ) : Type 0 where
  pub headroom : IsHeadroomTextOf model text
  pub in_time : IfSome headroom.percent (λ percent. IsInTime (scaled model percent))
