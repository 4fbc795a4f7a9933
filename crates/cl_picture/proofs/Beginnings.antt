-- Pieces and elements of which a beginning stands after a text.
use Rattle.std.proofs.Common.{◌≡◌, ℕ, ◌+◌, ◌<◌, List, [], ◌∷◌, ◌++◌, length, get_or, take, drop, map, sym, ap, subst, ◌∙◌, arith}
use Rattle.std.specs.List.{flat_map, range_with_len}
use Rattle.std.proofs.lemmas.Grind.{flat_map-append}
use Rattle.std.proofs.lemmas.List.{append-nil, map-append, take-append-drop}
use Rattle.cl_text.specs.Beginnings.{PutsPart}
use Rattle.cl_text.proofs.Beginnings.{puts_first, puts_second, numbers_around}
use Rattle.cl_picture.specs.Pieces.{Piece, Element, piece_text, pieces_text, print}
use Rattle.cl_picture.proofs.Printing.{spelled-append, print-append, mapped_take, joined_line}

-- a beginning of the first pieces, or the first pieces and a beginning of more
pub first_pieces : (old new : List ℕ) (some more : List Piece) → PutsPart old new (pieces_text some) → PutsPart old new (pieces_text (some ++ more))
first_pieces old new some more part = subst (PutsPart old new) (sym (spelled-append some more)) (puts_first old new (pieces_text some) (pieces_text more) part)

pub second_pieces : (old between new : List ℕ) (some more : List Piece) → between ≡ old ++ pieces_text some → PutsPart between new (pieces_text more)
    → PutsPart old new (pieces_text (some ++ more))
second_pieces old between new some more was part =
    subst (PutsPart old new) (sym (spelled-append some more)) (puts_second old between new (pieces_text some) (pieces_text more) was part)

-- and so of elements
pub first_elements : (old new : List ℕ) (some more : List Element) → PutsPart old new (print some) → PutsPart old new (print (some ++ more))
first_elements old new some more part = subst (PutsPart old new) (sym (print-append some more)) (puts_first old new (print some) (print more) part)

pub second_elements : (old between new : List ℕ) (some more : List Element) → between ≡ old ++ print some → PutsPart between new (print more)
    → PutsPart old new (print (some ++ more))
second_elements old between new some more was part =
    subst (PutsPart old new) (sym (print-append some more)) (puts_second old between new (print some) (print more) was part)

-- and so of a line
pub first_of_line : (old new : List ℕ) (some more : List Piece) → PutsPart old new (pieces_text some) → PutsPart old new (print ((some ++ more) ∷ []))
first_of_line old new some more part =
    subst (PutsPart old new) (joined_line some more) (puts_first old new (pieces_text some) (print (more ∷ [])) part)

pub second_of_line : (old between new : List ℕ) (some more : List Piece) → between ≡ old ++ pieces_text some → PutsPart between new (print (more ∷ []))
    → PutsPart old new (print ((some ++ more) ∷ []))
second_of_line old between new some more was part =
    subst (PutsPart old new) (joined_line some more) (puts_second old between new (pieces_text some) (print (more ∷ [])) was part)

-- a beginning of the piece of an item behind the pieces of those before it
pub listed_piece : {X : Type 0} (piece : X → Piece) (xs : List X) (x d : X) (old between new : List ℕ) (n : ℕ) → n < length xs → x ≡ get_or xs n d
    → between ≡ old ++ pieces_text (map piece (take n xs)) → PutsPart between new (piece_text (piece x)) → PutsPart old new (pieces_text (map piece xs))
unfolding pieces_text
listed_piece piece xs x d old between new n within is was part =
    let behind = drop (n + 1) xs in
    let all : (map piece (take n xs) ++ piece x ∷ []) ++ map piece behind ≡ map piece xs =
    ap (λ ps. ps ++ map piece behind) (mapped_take piece xs x d n within is)
    ∙ sym (map-append piece (take (n + 1) xs) behind) ∙ ap (map piece) (take-append-drop (n + 1) xs) in
    let own = subst (PutsPart between new) (sym (append-nil (piece_text (piece x)))) part in
    subst (λ ps. PutsPart old new (pieces_text ps)) all
    (first_pieces old new (map piece (take n xs) ++ piece x ∷ []) (map piece behind)
    (second_pieces old between new (map piece (take n xs)) (piece x ∷ []) was own))

-- a beginning of the pieces of a number behind those of the numbers before it
pub numbered_part : (pieces : ℕ → List Piece) (old between new : List ℕ) (n count : ℕ) → n < count
    → between ≡ old ++ pieces_text (flat_map pieces (range_with_len 0 n)) → PutsPart between new (pieces_text (pieces n))
    → PutsPart old new (pieces_text (flat_map pieces (range_with_len 0 count)))
numbered_part pieces old between new n count within was part =
    let (rest, is) = numbers_around 0 n count within in
    let here : n ≡ 0 + n = omega arith in
    let own = subst (λ k. PutsPart between new (pieces_text (pieces k))) here part in
    subst (λ ps. PutsPart old new (pieces_text ps)) (sym (ap (flat_map pieces) is ∙ flat_map-append pieces (range_with_len 0 n) ((0 + n) ∷ rest)))
    (second_pieces old between new (flat_map pieces (range_with_len 0 n)) (flat_map pieces ((0 + n) ∷ rest)) was
    (first_pieces between new (pieces (0 + n)) (flat_map pieces rest) own))

-- a beginning of the line of a number behind those of the numbers before it
pub numbered_line : (element : ℕ → Element) (old between new : List ℕ) (n count : ℕ) → n < count
    → between ≡ old ++ print (map element (range_with_len 0 n)) → PutsPart between new (print (element n ∷ []))
    → PutsPart old new (print (map element (range_with_len 0 count)))
numbered_line element old between new n count within was part =
    let (rest, is) = numbers_around 0 n count within in
    let here : n ≡ 0 + n = omega arith in
    let own = subst (λ k. PutsPart between new (print (element k ∷ []))) here part in
    subst (λ es. PutsPart old new (print es)) (sym (ap (map element) is ∙ map-append element (range_with_len 0 n) ((0 + n) ∷ rest)))
    (second_elements old between new (map element (range_with_len 0 n)) (map element ((0 + n) ∷ rest)) was
    (first_elements between new (element (0 + n) ∷ []) (map element rest) own))
