-- Nothing that a picture says of a model or a run can be read as its format.
use Rattle.std.specs.Prelude.{◌≡◌, ℕ, Bool, false, ◌==◌, ◌||◌, List, All, decimal}
use Rattle.cl_picture.specs.Pieces.{Piece, Fixed, Number, Name, Element}

-- the bytes that the format takes as its own: `<`, `>`, `&` and `"`
abbrev pub is_format_byte : ℕ → Bool
is_format_byte byte = ((byte == 0x3C || byte == 0x3E) || byte == 0x26) || byte == 0x22

-- a text without them
abbrev pub IsPlainText : List ℕ → Type 0
IsPlainText text = All (λ byte. is_format_byte byte ≡ false) text

-- a piece has none of them, unless it is words of the format
abbrev pub IsPlainPiece : Piece → Type 0
IsPlainPiece (Fixed words) = Unit {0}
IsPlainPiece (Number number) = IsPlainText (decimal number)
IsPlainPiece (Name name) = IsPlainText name

-- so has each piece of each element
abbrev pub ArePlain : List Element → Type 0
ArePlain elements = All (λ element. All IsPlainPiece element) elements
