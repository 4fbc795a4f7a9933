-- The edits that are left to read of a list.
use Rattle.std.specs.Prelude.{◌≡◌, ◌≢◌, ℕ, ◌+◌, ◌^◌, ◌<◌, ◌≤◌, Bool, not, ◌&&◌, if◌then◌else◌, List, [], ◌∷◌, length, map, All, Option, Some, None, codes}
use Rattle.std.specs.Str.{bytes_eq}
use denote.Bor.{Bor}
use Rattle.cl_edit.specs.{declared.{cursor.Cursor.Cursor, edit.Edit.Edit, edit_lines.ListedEdit.ListedEdit, limits.TheConstants.MOST_EDITS, version.Version.{Version, TheVariants.{One, Two}}}, Lines.edit_text, Reading.{IsLineEdit, edits_of, said_of}, Said.{Said, lines, said_from, plain}}
use Rattle.cl_edit.specs.{Said.{without_mark, IsTitled}, Inner.LineReads.edit_in}

-- ---- lines and edits that are left

-- the edit of a line, before others; a line that says none is passed over
abbrev pub before_others : (line : ℕ) → Option Edit → List ListedEdit → List ListedEdit
before_others line None others = others
before_others line (Some edit) others = record { line = line; edit = edit } ∷ others

-- the edits that lines say
abbrev pub edits_said : Version → List Said → List ListedEdit
edits_said version [] = []
edits_said version (said ∷ others) = before_others said.line (edit_in version said.text) (edits_said version others)

-- the lines of what is left of a text, where something is
abbrev pub lines_left : Option (Bor (List ℕ)) → List (List ℕ)
lines_left None = []
lines_left (Some left) = lines left.now

-- what the lines that are left say in a version
abbrev pub said_in : Version → Cursor → List Said
said_in version left = said_from version left.number (lines_left left.left)

-- what they say in their own version
abbrev pub said_left : Cursor → List Said
said_left left = said_in left.version left

-- the edits that are left
unfoldable pub edits_left : Cursor → List ListedEdit
edits_left left = edits_said left.version (said_left left)

-- each line that is left has a number of 64 bits
abbrev pub HasNumbers : Cursor → Type 0
HasNumbers left = left.number + length (lines_left left.left) < 2 ^ 64

-- each line that is left says an edit that may be a line, and they are few enough
pub record AreLeft (left : Cursor) : Type 0 where
  pub said : said_left left ≡ map said_of (edits_left left)
  pub lines : All (IsLineEdit left.version) (edits_of (edits_left left))
  pub few : length (edits_left left) ≤ MOST_EDITS
  pub numbered : HasNumbers left

-- ---- what is read of them

-- the version that a title is of, which is the last line of its text or isn't
abbrev pub titled_version : (title : List ℕ) → (is_last : Bool) → Option Version
titled_version title is_last =
    if bytes_eq title (codes "chainlat edits 1") && not is_last then Some One
    else if bytes_eq (plain (without_mark title)) (codes "chainlat edits 2") then Some Two
    else None

-- the lines behind a title, the first of them the second of the text
pub record AreBehindTitle (text : List ℕ) (left : Cursor) : Type 0 where
  pub titled : IsTitled left.version text (lines_left left.left)
  pub second : left.number ≡ 2
  pub numbered : HasNumbers left

-- the first line is taken, and the others are left
pub record IsTaken (number : ℕ) (line : List ℕ) (before after : Cursor) : Type 0 where
  pub lines : lines_left before.left ≡ line ∷ lines_left after.left
  pub number_is : number ≡ before.number
  pub next : after.number ≡ before.number + 1
  pub same : after.version ≡ before.version

-- no line is left, and nothing changes
pub record IsNoneTaken (before after : Cursor) : Type 0 where
  pub lines : lines_left before.left ≡ []
  pub same : after ≡ before

-- a line says this edit
abbrev pub SaysThis : Version → Said → ListedEdit → Type 0
SaysThis version said listed = (said ≡ said_of listed) × IsLineEdit version listed.edit

-- what is read is the edit that the first of these lines says, and the others are left; or there is no line
abbrev pub ReadsFirst : Version → Option ListedEdit → (before after : List Said) → Type 0
ReadsFirst version (Some listed) before after = (before ≡ said_of listed ∷ after) × IsLineEdit version listed.edit
ReadsFirst version None before after = (before ≡ []) × (after ≡ [])

-- the first of these lines has this number, and says no edit
pub record SaysNone (version : Version) (before : List Said) (number : ℕ) : Type 0 where
  pub first : Said
  pub behind : List Said
  pub are : before ≡ first ∷ behind
  pub none : (edit : Edit) → IsLineEdit version edit → first.text ≢ edit_text edit
  pub counted : number ≡ first.line
