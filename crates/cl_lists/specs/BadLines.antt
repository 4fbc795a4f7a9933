-- What is said of a line of a list of edits that can't be read: what stands there, and what is wanted.
use Rattle.std.specs.Prelude.{ℕ, ◌+◌, ◌-◌, Bool, false, ◌&&◌, ◌||◌, ◌==◌, if◌then◌else◌, List, [], ◌++◌, length, take, count_by, Option, Some, None, unwrap_or, codes}
use Rattle.std.specs.List.{find, slice_get, slice_split}
use Rattle.std.specs.Option.{option_map_or}
use Rattle.std.specs.Str.{bytes_eq}
use Rattle.cl_text.specs.Line.{line}
use Rattle.cl_edit.specs.{declared.{limits.TheConstants.MOST_EDITS, version.Version.{Version, TheVariants.{One, Two}}}, Said.{lines, without_return, is_blank, has_bytes, words_of, says}}
use Rattle.cl_advice.specs.Shown.{quoted}
use Rattle.cl_lists.specs.Shapes.{shape_of, words_text}

-- ---- lines

-- the line of a number, counted from 1
abbrev pub line_of : (list : List ℕ) → (number : ℕ) → List ℕ
line_of list number = unwrap_or (slice_get (lines list) (number - 1)) []

-- what stands in a line: in version 2 a carriage return at its end is none of it
abbrev pub without_end : Version → (line : List ℕ) → List ℕ
without_end One line = line
without_end Two line = without_return line

-- that this was found, in quotes
abbrev pub line_found : Version → (list : List ℕ) → (number : ℕ) → List ℕ
line_found version list number = line (codes "found " ++ quoted (without_end version (line_of list number)))

-- its first word
abbrev pub leading_word : (line : List ℕ) → List ℕ
leading_word line = unwrap_or (find has_bytes (slice_split is_blank (without_return line))) []

-- how many lines above a line say something, the title among them
abbrev pub said_above : Version → (list : List ℕ) → (number : ℕ) → ℕ
said_above One list number = number - 1
said_above Two list number = count_by (λ line. says (leading_word line)) (take (number - 1) (lines list))

abbrev pub ends_with_return : (line : List ℕ) → Bool
ends_with_return line = option_map_or (λ byte. byte == 0x0D) (slice_get line (length line - 1)) false

-- ---- what is wanted

-- the words of the lines of which there may be 64
abbrev pub written_words : Version → List ℕ
written_words One = codes "report"
written_words Two = codes "report, tighten, verify"

-- the line is one of them as it stands: where it has an end, it is one too many
abbrev pub is_written_word : (word : List ℕ) → Bool
is_written_word word = (bytes_eq word (codes "report") || bytes_eq word (codes "tighten")) || bytes_eq word (codes "verify")

abbrev pub is_written_line : Version → (line : List ℕ) → Bool
is_written_line One line = bytes_eq line (codes "report")
is_written_line Two line = (length (words_of (without_return line)) == 1) && is_written_word (leading_word line)

-- the last line of a list of version 1 has no end
abbrev pub is_unended : Version → (list : List ℕ) → (number : ℕ) → Bool
is_unended One list number = number == length (lines list)
is_unended Two list number = false

abbrev pub shape_or_words : Version → Option (List ℕ) → List ℕ
shape_or_words version (Some shape) = codes "wanted " ++ shape
shape_or_words version None = codes "wanted one of " ++ words_text version

-- what is wanted in its place
abbrev pub wanted_words : Version → (list : List ℕ) → (number : ℕ) → List ℕ
wanted_words version list number =
    if number == 1 then codes "wanted chainlat edits 1"
    else if said_above version list number == MOST_EDITS + 1 then codes "wanted at most 4096 edits"
    else if is_unended version list number then codes "mend end the last line with LF"
    else if is_written_line version (line_of list number) then codes "wanted at most 64 lines " ++ written_words version
    else shape_or_words version (shape_of version (leading_word (line_of list number)))

-- ---- the lines

-- what to write where a line of version 1 ends with a carriage return
abbrev pub ends_of_lines : Version → (line : List ℕ) → List ℕ
ends_of_lines One found = if ends_with_return found then line (codes "mend write line ends as LF alone, or chainlat edits 2 in line 1") else []
ends_of_lines Two found = []

unfoldable pub bad_line_text : Version → (list : List ℕ) → (number : ℕ) → List ℕ
bad_line_text version list number =
    line_found version list number
    ++ line (wanted_words version list number)
    ++ ends_of_lines version (line_of list number)
