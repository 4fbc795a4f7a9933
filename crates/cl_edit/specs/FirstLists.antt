-- Lists of version 1, by their bytes.
use Rattle.std.specs.Prelude.{◌≡◌, ℕ, ◌+◌, List, [], ◌∷◌, ◌++◌, codes}
use Rattle.std.specs.List.{flat_map}
use Rattle.cl_text.specs.Line.{line}
use Rattle.cl_edit.specs.{declared.{edit_lines.ListedEdit.ListedEdit, version.Version.TheVariants.One}, Lines.edit_text, Reading.{MayBeListed, edits_of}}

-- the lines of edits are numbered one after another, from this number
abbrev pub AreNumberedFrom : (line : ℕ) → List ListedEdit → Type 0
AreNumberedFrom n [] = Unit {0}
AreNumberedFrom n (one ∷ others) = (one.line ≡ n) × AreNumberedFrom (n + 1) others

-- a text is the title of version 1 and one line for each edit, which are numbered from 2
pub record IsFirstList (text : List ℕ) (listed : List ListedEdit) : Type 0 where
  pub written : text ≡ line (codes "chainlat edits 1") ++ flat_map (λ (one : ListedEdit). line (edit_text one.edit)) listed
  pub numbered : AreNumberedFrom 2 listed
  pub may : MayBeListed One (edits_of listed)
