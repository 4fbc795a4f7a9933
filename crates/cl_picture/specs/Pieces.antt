-- Elements of a picture: each is a line of pieces. All text of a picture is the print of its elements.
use Rattle.std.specs.Prelude.{ℕ, List, decimal}
use Rattle.std.specs.List.{flat_map}
use Rattle.cl_text.specs.Line.{line}
use Rattle.cl_picture.specs.declared.pieces.Piece as own
use Rattle.cl_picture.specs.declared.pieces.Piece.TheVariants as own_piece

-- words of the format, a number, or a name of the model
pub data Piece : Type 0 where
  Fixed : (words : List ℕ) → Piece
  Number : (number : ℕ) → Piece
  Name : (name : List ℕ) → Piece

-- a line of the picture
abbrev pub Element : Type 0
Element = List Piece

-- the bytes of a piece
abbrev pub piece_text : Piece → List ℕ
piece_text (Fixed words) = words
piece_text (Number number) = decimal number
piece_text (Name name) = name

-- the bytes of pieces, one after the other
unfoldable pub pieces_text : List Piece → List ℕ
pieces_text pieces = flat_map piece_text pieces

-- the text of elements: each a line
unfoldable pub print : List Element → List ℕ
print elements = flat_map (λ element. line (pieces_text element)) elements

-- a piece of the code as one of the definitions
abbrev pub piece_of : own.Piece → Piece
piece_of (own_piece.Fixed words) = Fixed words.now
piece_of (own_piece.Number number) = Number number
piece_of (own_piece.Name name) = Name name.now
