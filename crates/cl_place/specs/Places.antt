-- Where something begins in the text of a document. Offsets count bytes. The tokens are those of TOML 1.1.
use Rattle.std.specs.Prelude.{◌≡◌, ℕ, ◌≤◌, ◌-◌, ◌⊎◌, Bool, false, ◌&&◌, ◌==◌, List, length, drop, slice_index, IsSome}
use Rattle.toml.specs.Parse.{skip_bom}
use Rattle.toml_parser.specs.{Lexical.{first, left_bracket, left_brace, is_bare}, Strings.{key, quoted}, Numbers.unquoted}

-- a text begins with a byte order mark
abbrev pub has_mark : List ℕ → Bool
has_mark text = (first text == 0xEF && slice_index text 1 == 0xBB) && slice_index text 2 == 0xBF

-- the front of a document, behind a byte order mark
abbrev pub IsFront : (document : List ℕ) → (at : ℕ) → Type 0
IsFront document at = drop at document ≡ skip_bom document

-- a text begins with a header or with an array
abbrev pub BeginsBracket : List ℕ → Type 0
BeginsBracket text = first text ≡ left_bracket

-- a text begins with a key, bare or quoted
abbrev pub BeginsKey : List ℕ → Type 0
BeginsKey text = IsSome (key text)

-- a text begins with what an array may hold besides arrays: an inline table, a string, or a number, a date or a word
abbrev pub BeginsItem : List ℕ → Type 0
BeginsItem text = (first text ≡ left_brace) ⊎ (IsSome (quoted text) ⊎ IsSome (unquoted text))

-- a place in a document: the front, or where a header, a key or an item begins
abbrev pub Begins : List ℕ → Type 0
Begins text = BeginsBracket text ⊎ (BeginsKey text ⊎ BeginsItem text)

-- no byte of a bare key, a number or a word stands before an offset, so that it isn't in the midst of one
abbrev pub StandsApart : (document : List ℕ) → (at : ℕ) → Type 0
StandsApart document at = (at ≡ 0) ⊎ (is_bare (slice_index document (at - 1)) ≡ false)

pub record IsPlaceIn (document : List ℕ) (at : ℕ) : Type 0 where
  pub within : at ≤ length document
  pub begins : IsFront document at ⊎ (StandsApart document at × Begins (drop at document))
