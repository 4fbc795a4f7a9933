-- Rows and columns of the bytes of a text, counted from 1. Columns count characters of UTF-8, a byte order mark none.
use Rattle.std.specs.Prelude.{◌≡◌, ◌≢◌, ℕ, ◌+◌, ◌-◌, ◌<◌, ◌≤◌, ◌⊎◌, Bool, ◌==◌, not, ◌&&◌, nat_le, nat_lt, List, length, drop, slice_index, count_by}
use Rattle.toml.specs.Parse.{skip_bom}
use Rattle.toml_parser.specs.Lexical.{line_feed}

abbrev pub is_line_feed : ℕ → Bool
is_line_feed byte = byte == line_feed

-- a byte that begins a character: one that isn't a further byte of it
abbrev pub begins_character : ℕ → Bool
begins_character byte = not (nat_le 128 byte && nat_lt byte 192)

-- the last row of some bytes begins at `start`: behind their last line feed, or at their front where they have none
pub record BeginsLastRow (bytes : List ℕ) (start : ℕ) : Type 0 where
  pub within : start ≤ length bytes
  pub behind : (start ≡ 0) ⊎ (slice_index bytes (start - 1) ≡ line_feed)
  pub last : (k : ℕ) → start ≤ k → k < length bytes → slice_index bytes k ≢ line_feed

-- the row and the column that follow some bytes
pub record IsBehind (bytes : List ℕ) (row column : ℕ) : Type 0 where
  pub start : ℕ
  pub begins : BeginsLastRow bytes start
  pub rows : row ≡ count_by is_line_feed bytes + 1
  pub columns : column ≡ count_by begins_character (skip_bom (drop start bytes)) + 1
