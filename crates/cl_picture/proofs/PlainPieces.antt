-- Elements whose names are plain are plain.
use Rattle.std.proofs.Common.{◌≡◌, ℕ, zero, suc, ◌+◌, ◌/◌, ◌%◌, ◌<◌, false, List, [], ◌∷◌, ◌++◌, map, arith}
use Rattle.std.specs.Prelude.{All, codes, nat_lt, ◌==◌, decimal}
use Rattle.std.specs.List.{flat_map, range_with_len}
use Rattle.std.specs.Fmt.{digits, digits_onto, digit_glyph}
use Rattle.std.proofs.lemmas.Bool.{lt-ltb}
use Rattle.std.proofs.lemmas.Bool.Decides.{nat_tests}
use Rattle.std.proofs.lemmas.List.Elements.{All-nil, All-cons}
use Rattle.cl_picture.specs.{declared.window.Window.Window, Pieces.{Piece, Fixed, Number, Name, Element}, Plain.{is_format_byte, IsPlainText, IsPlainPiece, ArePlain}, Axis.{tick_at, tick_count, tick_pieces, tick_line, axis}, Frame.{begin, end}}
use Rattle.cl_picture.proofs.BarSides.{choose}

-- ---- numbers

glyph_plain : (d : ℕ) → d < 10 → is_format_byte (digit_glyph false d) ≡ false
glyph_plain d digit = choose (λ b. is_format_byte b ≡ false) (nat_lt d 10) (48 + d) (87 + d) (λ is. number) (λ not. absurd (cc (not, lt-ltb d 10 digit)))
  where
    number : is_format_byte (48 + d) ≡ false
    number = grind (arith, nat_tests)

onto_plain : (k n : ℕ) (more : List ℕ) → IsPlainText more → IsPlainText (digits_onto k 10 false n more)
onto_plain zero n more plain = plain
onto_plain (suc k) n more plain =
    let next = All-cons (λ byte. is_format_byte byte ≡ false) (digit_glyph false (n % 10)) more (glyph_plain (n % 10) (omega arith)) plain in
    choose IsPlainText (n / 10 == 0) (digit_glyph false (n % 10) ∷ more) (digits_onto k 10 false (n / 10) (digit_glyph false (n % 10) ∷ more))
    (λ last. next) (λ other. onto_plain k (n / 10) (digit_glyph false (n % 10) ∷ more) next)

number_plain : (n : ℕ) → IsPlainText (decimal n)
unfolding digits
number_plain n = onto_plain 64 n [] (All-nil (λ byte. is_format_byte byte ≡ false))

-- ---- pieces and elements, by their names

abbrev pub NamesPlain : List Piece → Type 0
NamesPlain [] = Unit {0}
NamesPlain (Fixed words ∷ pieces) = NamesPlain pieces
NamesPlain (Number number ∷ pieces) = NamesPlain pieces
NamesPlain (Name name ∷ pieces) = IsPlainText name × NamesPlain pieces

abbrev pub LinesPlain : List Element → Type 0
LinesPlain [] = Unit {0}
LinesPlain (element ∷ elements) = NamesPlain element × LinesPlain elements

pub names-append : (some more : List Piece) → NamesPlain some → NamesPlain more → NamesPlain (some ++ more)
names-append [] more one other = other
names-append (Fixed words ∷ some) more one other = names-append some more one other
names-append (Number number ∷ some) more one other = names-append some more one other
names-append (Name name ∷ some) more one other = (one.0, names-append some more one.1 other)

pub names-flat_map : {X : Type 0} (f : X → List Piece) (xs : List X) → ((x : X) → NamesPlain (f x)) → NamesPlain (flat_map f xs)
names-flat_map f [] each = tt
names-flat_map f (x ∷ xs) each = names-append (f x) (flat_map f xs) (each x) (names-flat_map f xs each)

pub lines-append : (some more : List Element) → LinesPlain some → LinesPlain more → LinesPlain (some ++ more)
lines-append [] more one other = other
lines-append (element ∷ some) more one other = (one.0, lines-append some more one.1 other)

pub lines-map : {X : Type 0} (f : X → Element) (xs : List X) → ((x : X) → NamesPlain (f x)) → LinesPlain (map f xs)
lines-map f [] each = tt
lines-map f (x ∷ xs) each = (each x, lines-map f xs each)

pub lines-flat_map : {X : Type 0} (f : X → List Element) (xs : List X) → ((x : X) → LinesPlain (f x)) → LinesPlain (flat_map f xs)
lines-flat_map f [] each = tt
lines-flat_map f (x ∷ xs) each = lines-append (f x) (flat_map f xs) (each x) (lines-flat_map f xs each)

pieces_plain : (pieces : List Piece) → NamesPlain pieces → All IsPlainPiece pieces
pieces_plain [] plain = All-nil IsPlainPiece
pieces_plain (Fixed words ∷ pieces) plain = All-cons IsPlainPiece (Fixed words) pieces tt (pieces_plain pieces plain)
pieces_plain (Number number ∷ pieces) plain = All-cons IsPlainPiece (Number number) pieces (number_plain number) (pieces_plain pieces plain)
pieces_plain (Name name ∷ pieces) plain = All-cons IsPlainPiece (Name name) pieces plain.0 (pieces_plain pieces plain.1)

pub lines_plain : (elements : List Element) → LinesPlain elements → ArePlain elements
lines_plain [] plain = All-nil (λ (element : Element). All IsPlainPiece element)
lines_plain (element ∷ elements) plain =
    All-cons (λ (e : Element). All IsPlainPiece e) element elements (pieces_plain element plain.0) (lines_plain elements plain.1)

-- ---- what frames a picture

pub begin_plain : (window : Window) (ticks height : ℕ) → LinesPlain (begin window ticks height)
unfolding begin
begin_plain window ticks height = (tt, (tt, (tt, (tt, (tt, (tt, tt))))))

pub end_plain : (bottom : ℕ) → LinesPlain (end bottom)
unfolding end
end_plain bottom = (tt, (tt, (tt, (tt, tt))))

abbrev all_ticks : Window → (bottom : ℕ) → List Piece
all_ticks window bottom = flat_map (λ k. tick_pieces window bottom (tick_at window k)) (range_with_len 0 (tick_count window))

pub axis_plain : (window : Window) (bottom : ℕ) → LinesPlain (axis window bottom)
unfolding axis
axis_plain window bottom = (
  names-append (all_ticks window bottom) (Fixed (codes "\"/>") ∷ [])
      (names-flat_map (λ k. tick_pieces window bottom (tick_at window k)) (range_with_len 0 (tick_count window)) (λ k. tt)) tt,
  (tt, lines-map (λ k. tick_line window (tick_at window k)) (range_with_len 0 (tick_count window)) (λ k. tt)),
)
