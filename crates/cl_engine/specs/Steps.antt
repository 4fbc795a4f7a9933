-- How many analysing steps a command takes.
use Rattle.std.specs.Prelude.{◌⊎◌, ℕ, ◌≤◌, List, Option, Some, None}
use Rattle.cl_engine.specs.{Content.{Content, Means}, Language.Language}

-- the files hold this, and the command takes the steps of it
pub record TakesOfContent {C : Type 0} (language : Language C) (asked : C) (contents : ℕ → List ℕ) (before after : ℕ) : Type 0 where
  pub content : Content
  pub means : Means (language.files asked) contents content
  pub takes : language.takes asked content before after

-- the steps before and after a command whose files have these bytes: none, or those of what the files hold
abbrev pub AreFewSteps : {C : Type 0} → Language C → Option C → (contents : ℕ → List ℕ) → (before after : ℕ) → Type 0
AreFewSteps language None contents before after = after ≤ before
AreFewSteps language (Some asked) contents before after = (after ≤ before) ⊎ TakesOfContent language asked contents before after
