-- The lines of a list of edits: where they stand in a text, which of them say something, and what.
use Rattle.std.specs.Prelude.{◌≡◌, ◌≢◌, ℕ, ◌+◌, Bool, true, false, not, ◌==◌, nat_eq, ◌||◌, if◌then◌else◌, List, [], ◌∷◌, drop, codes, filter, Option, Some, None}
use Rattle.std.specs.List.{slice_split, join_with_byte, starts_with}
use Rattle.std.specs.Str.{bytes_eq}
use Rattle.cl_edit.specs.declared.version.Version.{Version, TheVariants.{One, Two}}

-- ---- lines and words

-- what stands between the line feeds of a text
abbrev pub lines : List ℕ → List (List ℕ)
lines text = slice_split (λ byte. byte == 0x0A) text

-- a text without a carriage return at its end
abbrev pub without_return : List ℕ → List ℕ
without_return [] = []
without_return (byte ∷ []) = if byte == 0x0D then [] else byte ∷ []
without_return (byte ∷ next ∷ bytes) = byte ∷ without_return (next ∷ bytes)

-- a text without a byte order mark in front
abbrev pub without_mark : List ℕ → List ℕ
without_mark text = if starts_with nat_eq text (0xEF ∷ 0xBB ∷ 0xBF ∷ []) then drop 3 text else text

-- a byte that stands between words
abbrev pub is_blank : ℕ → Bool
is_blank byte = (byte == 0x20) || (byte == 0x09)

-- whether a text has a byte
abbrev pub has_bytes : List ℕ → Bool
has_bytes [] = false
has_bytes (byte ∷ bytes) = true

-- the words of a line: what stands between its blanks
abbrev pub words_of : List ℕ → List (List ℕ)
words_of line = filter has_bytes (slice_split is_blank line)

-- a line in plain form: its words with one blank between each two
unfoldable pub plain : List ℕ → List ℕ
plain line = join_with_byte 0x20 (words_of (without_return line))

-- whether a line says something: it has words, and the first of them doesn't begin with `#`
abbrev pub says : (plain : List ℕ) → Bool
says [] = false
says (byte ∷ bytes) = not (byte == 0x23)

-- ---- what a list says

-- a line that says something, by its number in the text, counted from 1
pub record Said : Type 0 where
  pub line : ℕ
  pub text : List ℕ

-- the last line of a text has no end: where it isn't empty, it says nothing that can be read
abbrev pub unended : (line : ℕ) → List ℕ → List Said
unended n [] = []
unended n (byte ∷ bytes) = record { line = n; text = [] } ∷ []

-- in version 1 each line with an end says what stands in it
abbrev pub ended_from : (line : ℕ) → List (List ℕ) → List Said
ended_from n [] = []
ended_from n (line ∷ []) = unended n line
ended_from n (line ∷ next ∷ lines) = record { line = n; text = line } ∷ ended_from (n + 1) (next ∷ lines)

-- in version 2 lines that say something count alone, each by its plain form
abbrev pub spoken_from : (line : ℕ) → List (List ℕ) → List Said
spoken_from n [] = []
spoken_from n (line ∷ lines) = if says (plain line) then record { line = n; text = plain line } ∷ spoken_from (n + 1) lines else spoken_from (n + 1) lines

-- what lines say in a version, the first of them of this number
unfoldable pub said_from : Version → (line : ℕ) → List (List ℕ) → List Said
said_from One n lines = ended_from n lines
said_from Two n lines = spoken_from n lines

-- ---- titles

-- the first line of a list, before these other lines: in version 1 it has an end, so that a line stands behind it
abbrev pub IsTitle : Version → (title : List ℕ) → (others : List (List ℕ)) → Type 0
IsTitle One title others = (title ≡ codes "chainlat edits 1") × (others ≢ [])
IsTitle Two title others = plain (without_mark title) ≡ codes "chainlat edits 2"

-- the text is titled as a list of this version, and goes on with these lines
pub record IsTitled (version : Version) (text : List ℕ) (others : List (List ℕ)) : Type 0 where
  pub title : List ℕ
  pub parts : lines text ≡ title ∷ others
  pub is : IsTitle version title others

-- ---- the version that a text names

-- the first of some lines, and what stands before the first line feed of a text
abbrev pub first_of_lines : List (List ℕ) → List ℕ
first_of_lines [] = []
first_of_lines (line ∷ lines) = line

abbrev pub first_line : List ℕ → List ℕ
first_line text = first_of_lines (lines text)

-- the version that a first line names: that of a list whose title it is, but for the end of a line of version 1
unfoldable pub version_of_line : (line : List ℕ) → Option Version
version_of_line line =
    if bytes_eq (plain (without_mark line)) (codes "chainlat edits 2") then Some Two
    else if bytes_eq (without_return line) (codes "chainlat edits 1") then Some One
    else None

-- the version that a text names in its first line, whether or not it lists edits
abbrev pub version_named : (text : List ℕ) → Option Version
version_named text = version_of_line (first_line text)
