-- How long pieces and elements are as text.
use Rattle.std.proofs.Common.{ℕ, ◌+◌, ◌*◌, ◌^◌, ◌<◌, ◌≤◌, List, [], ◌∷◌, ◌++◌, length, map, ap, arith, length-append}
use Rattle.std.specs.Prelude.{All, decimal, sum_by}
use Rattle.std.specs.List.{flat_map}
use Rattle.std.proofs.lemmas.Fmt.{length-decimal-le}
use Rattle.std.proofs.lemmas.List.Elements.{All-head, All-tail}
use Rattle.std.proofs.lemmas.List.Sums.{sum_by-cons}
use Rattle.cl_text.specs.Line.{line}
use Rattle.cl_picture.specs.Pieces.{Piece, Fixed, Number, Name, Element, pieces_text, print}
use Rattle.cl_picture.proofs.Printing.{spelled-append, print-append, spelled-nil, print-nil}

-- pieces of so many bytes at most
pub record IsWithin (pieces : List Piece) (most : ℕ) : Type 0 where
  pub within : length (pieces_text pieces) ≤ most

-- elements of so many bytes at most
pub record AreWithin (elements : List Element) (most : ℕ) : Type 0 where
  pub within : length (print elements) ≤ most

-- a number of so many digits at most
pub record HasDigits (number digits : ℕ) : Type 0 where
  pub within : length (decimal number) ≤ digits

-- a name of so many bytes at most
pub record IsShortName (name : List ℕ) : Type 0 where
  pub within : length name ≤ 64

pub digits : (k n : ℕ) → 0 < k → n < 10 ^ k → n < 2 ^ 64 → HasDigits n k
digits k n some less fits = record { within = length-decimal-le k n some less fits }

-- ---- pieces

pub none : IsWithin [] 0
none = record { within = omega (arith, ap length spelled-nil) }

pub wider : {pieces : List Piece} {most : ℕ} (more : ℕ) → IsWithin pieces most → most ≤ more → IsWithin pieces more
wider more is le = record { within = omega (arith, is.within, le) }

one_more : (text : List ℕ) (rest : List ℕ) (most others : ℕ) → length text ≤ most → length rest ≤ others → length (text ++ rest) ≤ most + others
one_more text rest most others first second = omega (arith, first, second, length-append text rest)

pub fixed : (words : List ℕ) {pieces : List Piece} {most : ℕ} → IsWithin pieces most → IsWithin (Fixed words ∷ pieces) (length words + most)
unfolding pieces_text
fixed words {pieces} {most} is = record { within = one_more words (pieces_text pieces) (length words) most (omega arith) is.within }

pub number : {n k : ℕ} → HasDigits n k → {pieces : List Piece} {most : ℕ} → IsWithin pieces most → IsWithin (Number n ∷ pieces) (k + most)
unfolding pieces_text
number {n} {k} has {pieces} {most} is = record { within = one_more (decimal n) (pieces_text pieces) k most has.within is.within }

pub name : {word : List ℕ} → IsShortName word → {pieces : List Piece} {most : ℕ} → IsWithin pieces most → IsWithin (Name word ∷ pieces) (64 + most)
unfolding pieces_text
name {word} has {pieces} {most} is = record { within = one_more word (pieces_text pieces) 64 most has.within is.within }

pub both : {some more : List Piece} {a b : ℕ} → IsWithin some a → IsWithin more b → IsWithin (some ++ more) (a + b)
both {some} {more} {a} {b} one other = record {
  within = omega (arith, one.within, other.within, ap length (spelled-append some more), length-append (pieces_text some) (pieces_text more));
}

pub each_of : {X : Type 0} (f : X → List Piece) (xs : List X) (most : ℕ) → All (λ x. IsWithin (f x) most) xs → IsWithin (flat_map f xs) (most * length xs)
each_of f [] most each = wider (most * 0) none (omega arith)
each_of f (x ∷ xs) most each =
    let rest = each_of f xs most (All-tail (λ y. IsWithin (f y) most) x xs each) in
    wider (most * length (x ∷ xs)) (both (All-head (λ y. IsWithin (f y) most) x xs each) rest) (omega arith)

-- ---- elements

pub no_lines : AreWithin [] 0
no_lines = record { within = omega (arith, ap length print-nil) }

pub wider_lines : {elements : List Element} {most : ℕ} (more : ℕ) → AreWithin elements most → most ≤ more → AreWithin elements more
wider_lines more is le = record { within = omega (arith, is.within, le) }

pub a_line : {element : Element} {elements : List Element} {most others : ℕ} → IsWithin element most → AreWithin elements others → AreWithin (element ∷ elements) (most + 1 + others)
unfolding print
a_line {element} {elements} {most} {others} is rest = record {
  within = omega (
    arith,
    is.within,
    rest.within,
    length-append (line (pieces_text element)) (print elements),
    length-append (pieces_text element) (0x0A ∷ []),
  );
}

pub both_lines : {some more : List Element} {a b : ℕ} → AreWithin some a → AreWithin more b → AreWithin (some ++ more) (a + b)
both_lines {some} {more} {a} {b} one other = record {
  within = omega (arith, one.within, other.within, ap length (print-append some more), length-append (print some) (print more));
}

pub lines_of : {X : Type 0} (f : X → Element) (xs : List X) (most : ℕ) → All (λ x. IsWithin (f x) most) xs → AreWithin (map f xs) ((most + 1) * length xs)
lines_of f [] most each = wider_lines ((most + 1) * 0) no_lines (omega arith)
lines_of f (x ∷ xs) most each =
    let rest = lines_of f xs most (All-tail (λ y. IsWithin (f y) most) x xs each) in
    wider_lines ((most + 1) * length (x ∷ xs)) (a_line (All-head (λ y. IsWithin (f y) most) x xs each) rest) (omega arith)

pub all_lines_of : {X : Type 0} (f : X → List Element) (most : X → ℕ) (xs : List X) → All (λ x. AreWithin (f x) (most x)) xs → AreWithin (flat_map f xs) (sum_by most xs)
all_lines_of f most [] each = wider_lines (sum_by most []) no_lines (omega arith)
all_lines_of f most (x ∷ xs) each =
    let rest = all_lines_of f most xs (All-tail (λ y. AreWithin (f y) (most y)) x xs each) in
    wider_lines (sum_by most (x ∷ xs)) (both_lines (All-head (λ y. AreWithin (f y) (most y)) x xs each) rest) (omega (arith, sum_by-cons most x xs))
