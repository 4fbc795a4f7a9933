-- The lines of a trace, by their numbers, and the words and numbers that stand in them.
use Rattle.std.specs.Prelude.{ℕ, ◌-◌, ◌^◌, Bool, ◌&&◌, ◌==◌, nat_le, nat_lt, if◌then◌else◌, List, [], length, Option, Some, None, unwrap_or, decimal}
use Rattle.std.specs.List.{slice_get, slice_split}
use Rattle.std.specs.Str.{bytes_eq}
use Rattle.std.specs.Str.Parse.{digits_value}

-- ---- lines

-- what stands between the line feeds of a trace
abbrev pub trace_lines : (trace : List ℕ) → List (List ℕ)
trace_lines trace = slice_split (λ byte. byte == 0x0A) trace

-- the line of a number, counted from 1, without its line feed: empty past the last one
abbrev pub trace_line : (trace : List ℕ) → (number : ℕ) → List ℕ
trace_line trace number = unwrap_or (slice_get (trace_lines trace) (number - 1)) []

-- whether a line feed stands behind it
abbrev pub is_fed : (trace : List ℕ) → (number : ℕ) → Bool
is_fed trace number = nat_lt number (length (trace_lines trace))

-- whether the trace ends where it begins
abbrev pub is_at_end : (trace : List ℕ) → (number : ℕ) → Bool
is_at_end trace number = nat_le (length (trace_lines trace)) number && (length (trace_line trace number) == 0)

-- ---- words

-- what stands between the blanks of a line
abbrev pub line_words : (line : List ℕ) → List (List ℕ)
line_words line = slice_split (λ byte. byte == 0x20) line

-- the word at a place, counted from 0: empty past the last one
abbrev pub line_word : (line : List ℕ) → (place : ℕ) → List ℕ
line_word line place = unwrap_or (slice_get (line_words line) place) []

-- the number below 2^64 that a word is, as it is printed
abbrev pub printed_number : (word : List ℕ) → Option ℕ
printed_number word = if nat_lt (digits_value 10 word) (2 ^ 64) && bytes_eq word (decimal (digits_value 10 word))
    then Some (digits_value 10 word) else None
