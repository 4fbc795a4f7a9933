-- What stands next in a text of lines.
use Rattle.std.specs.Prelude.{◌≢◌, ℕ, List, ◌++◌}

-- no line that may stand next does: the text begins with none of them
abbrev pub NoneStands : {Line : Type 0} → (line_text : Line → List ℕ) → (MayStand : Line → Type 0) → (text : List ℕ) → Type 0
NoneStands {Line = Line} line_text MayStand text = (next : Line) (after : List ℕ) → MayStand next → text ≢ line_text next ++ after
