-- What is said of bytes that are no document: what to write, and what the parser says.
use Rattle.std.specs.Prelude.{ℕ, ◌==◌, ◌&&◌, ◌||◌, not, Bool, if◌then◌else◌, List, [], ◌∷◌, ◌++◌, Option, Some, None, slice_index, codes}
use Rattle.std.specs.List.{find, list_any, prefix_len, slice_split}
use Rattle.std.specs.Option.{option_or}
use Rattle.std.specs.Str.{bytes_eq}
use Rattle.toml.specs.Parse.{skip_bom}
use Rattle.cl_text.specs.Line.{line}
use Rattle.cl_model.specs.{declared.place.Part.Part, Place.part_text}
use Rattle.cl_model.specs.declared.place.Part.TheVariants as part
use Rattle.cl_advice.specs.Shown.{shown}

-- a blank, or the end of a line
abbrev pub is_space : ℕ → Bool
is_space byte = ((byte == 0x20 || byte == 0x09) || byte == 0x0A) || byte == 0x0D

abbrev pub has_byte : (byte : ℕ) → List ℕ → Bool
has_byte byte bytes = list_any (λ other. other == byte) bytes

-- ---- what a file is instead

-- the first byte that is no blank, behind a byte order mark; 0 where there is none
abbrev pub first_sign : List ℕ → ℕ
first_sign bytes = slice_index (skip_bom bytes) (prefix_len is_space (skip_bom bytes))

-- its lines end with 0x0D alone
abbrev pub has_returns_alone : List ℕ → Bool
has_returns_alone bytes = not (has_byte 0x0A bytes) && has_byte 0x0D bytes

abbrev pub unread_mend : List ℕ
unread_mend = codes "write TOML 1.1 in UTF-8"

abbrev pub instead_mend : List ℕ → List ℕ
instead_mend bytes =
    if first_sign bytes == 0x3C then codes "this is XML: docs/amalthea.md says what becomes of it"
    else if first_sign bytes == 0x7B then codes "this is JSON: write TOML"
    else if has_returns_alone bytes then codes "end lines with LF or CR LF"
    else unread_mend

-- ---- a header that stands twice

-- a header in single brackets, of a section or of a runnable in it
abbrev pub opens_singly : Part → (word : List ℕ) → Bool
opens_singly section word =
    bytes_eq word (codes "[" ++ part_text section ++ codes "]") || bytes_eq word (codes "[" ++ part_text section ++ codes ".runnable]")

-- the section of such a header
abbrev pub single_part : (word : List ℕ) → Option Part
single_part word = find (λ section. opens_singly section word) (part.Core ∷ part.Stimulus ∷ part.Label ∷ part.Task ∷ part.Chain ∷ part.Requirement ∷ [])

-- that of the first among some words
abbrev pub first_single : (words : List (List ℕ)) → Option Part
first_single [] = None
first_single (word ∷ words) = option_or (single_part word) (first_single words)

-- the section whose header in single brackets stands in a file that has a key twice
abbrev pub doubled_in : (bytes message : List ℕ) → Option Part
doubled_in bytes message = if bytes_eq message (codes "duplicate key") then first_single (slice_split is_space bytes) else None

-- ---- the lines

abbrev pub message_line : List ℕ → List ℕ
message_line message = line (codes "message " ++ shown message)

abbrev pub instead_line : List ℕ → List ℕ
instead_line bytes = line (codes "mend " ++ instead_mend bytes)

unfoldable pub doubled_lines : Part → List ℕ
doubled_lines section =
    line (codes "key " ++ part_text section)
    ++ line (codes "mend each " ++ part_text section ++ codes " begins with [[" ++ part_text section ++ codes "]]")

abbrev pub mend_lines : (bytes : List ℕ) → Option Part → List ℕ
mend_lines bytes None = instead_line bytes
mend_lines bytes (Some section) = doubled_lines section

-- what is said of bytes of which the parser says this
unfoldable pub unread_text : (bytes message : List ℕ) → List ℕ
unread_text bytes message = mend_lines bytes (doubled_in bytes message) ++ message_line message
