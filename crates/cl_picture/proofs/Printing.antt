-- Texts that grow by pieces and by elements.
use Rattle.std.proofs.Common.{◌≡◌, ℕ, suc, ◌+◌, ◌<◌, ◌≤◌, List, [], ◌∷◌, ◌++◌, length, get_or, take, map, refl, sym, ap, ◌∙◌, arith, append_assoc}
use Rattle.std.specs.List.{flat_map, range_with_len}
use Rattle.std.proofs.lemmas.Grind.{flat_map-append}
use Rattle.std.proofs.lemmas.List.{append-nil, map-append, take_more, take_all}
use Rattle.cl_text.specs.Line.{line}
use Rattle.cl_text.proofs.MoreLines.{range_more}
use Rattle.cl_picture.specs.Pieces.{Piece, Element, piece_text, pieces_text, print}

pub spelled-append : (some more : List Piece) → pieces_text (some ++ more) ≡ pieces_text some ++ pieces_text more
unfolding pieces_text
spelled-append some more = flat_map-append piece_text some more

pub print-append : (some more : List Element) → print (some ++ more) ≡ print some ++ print more
unfolding print
print-append some more = flat_map-append (λ (element : Element). line (pieces_text element)) some more

-- what comes of one more number
pub flat_range : {X : Type 0} (f : ℕ → List X) (n : ℕ) → flat_map f (range_with_len 0 n) ++ f n ≡ flat_map f (range_with_len 0 (n + 1))
flat_range f n =
    let next : suc n ≡ n + 1 = omega arith in
    let here : 0 + n ≡ n = omega arith in
    ap (λ xs. flat_map f (range_with_len 0 n) ++ xs) (sym (append-nil (f n)))
    ∙ sym (flat_map-append f (range_with_len 0 n) (n ∷ []))
    ∙ ap (λ m. flat_map f (range_with_len 0 n ++ m ∷ [])) (sym here)
    ∙ ap (flat_map f) (sym (range_more 0 n))
    ∙ ap (λ m. flat_map f (range_with_len 0 m)) next

pub mapped_range : {X : Type 0} (f : ℕ → X) (n : ℕ) → map f (range_with_len 0 n) ++ f n ∷ [] ≡ map f (range_with_len 0 (n + 1))
mapped_range f n =
    let next : suc n ≡ n + 1 = omega arith in
    let here : 0 + n ≡ n = omega arith in
    sym (map-append f (range_with_len 0 n) (n ∷ []))
    ∙ ap (λ m. map f (range_with_len 0 n ++ m ∷ [])) (sym here)
    ∙ ap (map f) (sym (range_more 0 n))
    ∙ ap (λ m. map f (range_with_len 0 m)) next

-- what comes of one more item
pub mapped_take : {X Y : Type 0} (f : X → Y) (xs : List X) (x d : X) (n : ℕ) → n < length xs → x ≡ get_or xs n d
    → map f (take n xs) ++ f x ∷ [] ≡ map f (take (n + 1) xs)
mapped_take f xs x d n within is =
    ap (λ y. map f (take n xs) ++ f y ∷ []) is ∙ sym (map-append f (take n xs) (get_or xs n d ∷ [])) ∙ ap (map f) (sym (take_more xs n d within))

pub flat_take : {X Y : Type 0} (f : X → List Y) (xs : List X) (x d : X) (n : ℕ) → n < length xs → x ≡ get_or xs n d
    → flat_map f (take n xs) ++ f x ≡ flat_map f (take (n + 1) xs)
flat_take f xs x d n within is =
    ap (λ y. flat_map f (take n xs) ++ f y) is
    ∙ ap (λ ys. flat_map f (take n xs) ++ ys) (sym (append-nil (f (get_or xs n d))))
    ∙ sym (flat_map-append f (take n xs) (get_or xs n d ∷ []))
    ∙ ap (flat_map f) (sym (take_more xs n d within))

-- nothing
pub print-nil : print [] ≡ []
unfolding print
print-nil = refl

pub spelled-nil : pieces_text [] ≡ []
unfolding pieces_text
spelled-nil = refl

-- before anything is put
pub no_elements : (t : List ℕ) → t ≡ t ++ print []
no_elements t = sym (append-nil t) ∙ ap (λ (u : List ℕ). t ++ u) (sym print-nil)

pub no_pieces : (t : List ℕ) → t ≡ t ++ pieces_text []
no_pieces t = sym (append-nil t) ∙ ap (λ (u : List ℕ). t ++ u) (sym spelled-nil)

-- pieces behind pieces
pub more_pieces : (t0 t1 t2 : List ℕ) (some more : List Piece) → t1 ≡ t0 ++ pieces_text some → t2 ≡ t1 ++ pieces_text more → t2 ≡ t0 ++ pieces_text (some ++ more)
more_pieces t0 t1 t2 some more first second =
    second ∙ ap (λ (t : List ℕ). t ++ pieces_text more) first ∙ append_assoc t0 (pieces_text some) (pieces_text more)
    ∙ ap (λ (t : List ℕ). t0 ++ t) (sym (spelled-append some more))

-- elements behind elements
pub more_elements : (t0 t1 t2 : List ℕ) (some more : List Element) → t1 ≡ t0 ++ print some → t2 ≡ t1 ++ print more → t2 ≡ t0 ++ print (some ++ more)
more_elements t0 t1 t2 some more first second =
    second ∙ ap (λ (t : List ℕ). t ++ print more) first ∙ append_assoc t0 (print some) (print more)
    ∙ ap (λ (t : List ℕ). t0 ++ t) (sym (print-append some more))

-- a line that begins with pieces
pub joined_line : (some more : List Piece) → pieces_text some ++ print (more ∷ []) ≡ print ((some ++ more) ∷ [])
unfolding print
joined_line some more =
    ap (λ (t : List ℕ). pieces_text some ++ t) (append-nil (pieces_text more ++ 0x0A ∷ []))
    ∙ sym (append_assoc (pieces_text some) (pieces_text more) (0x0A ∷ []))
    ∙ ap (λ (t : List ℕ). t ++ 0x0A ∷ []) (sym (spelled-append some more))
    ∙ sym (append-nil (pieces_text (some ++ more) ++ 0x0A ∷ []))

pub line_behind : (t0 t1 t2 : List ℕ) (some more : List Piece) → t1 ≡ t0 ++ pieces_text some → t2 ≡ t1 ++ print (more ∷ []) → t2 ≡ t0 ++ print ((some ++ more) ∷ [])
line_behind t0 t1 t2 some more first second =
    second ∙ ap (λ (t : List ℕ). t ++ print (more ∷ [])) first ∙ append_assoc t0 (pieces_text some) (print (more ∷ []))
    ∙ ap (λ (t : List ℕ). t0 ++ t) (joined_line some more)

-- the pieces of one more number
pub numbered_pieces : (pieces : ℕ → List Piece) (t0 t1 t2 : List ℕ) (n : ℕ) → t1 ≡ t0 ++ pieces_text (flat_map pieces (range_with_len 0 n))
    → t2 ≡ t1 ++ pieces_text (pieces n) → t2 ≡ t0 ++ pieces_text (flat_map pieces (range_with_len 0 (n + 1)))
numbered_pieces pieces t0 t1 t2 n first second =
    more_pieces t0 t1 t2 (flat_map pieces (range_with_len 0 n)) (pieces n) first second
    ∙ ap (λ (ps : List Piece). t0 ++ pieces_text ps) (flat_range pieces n)

-- the elements of one more number
pub numbered_elements : (elements : ℕ → List Element) (t0 t1 t2 : List ℕ) (n : ℕ) → t1 ≡ t0 ++ print (flat_map elements (range_with_len 0 n))
    → t2 ≡ t1 ++ print (elements n) → t2 ≡ t0 ++ print (flat_map elements (range_with_len 0 (n + 1)))
numbered_elements elements t0 t1 t2 n first second =
    more_elements t0 t1 t2 (flat_map elements (range_with_len 0 n)) (elements n) first second
    ∙ ap (λ (es : List Element). t0 ++ print es) (flat_range elements n)

-- the line of one more number
pub numbered_lines : (element : ℕ → Element) (t0 t1 t2 : List ℕ) (n : ℕ) → t1 ≡ t0 ++ print (map element (range_with_len 0 n))
    → t2 ≡ t1 ++ print (element n ∷ []) → t2 ≡ t0 ++ print (map element (range_with_len 0 (n + 1)))
numbered_lines element t0 t1 t2 n first second =
    more_elements t0 t1 t2 (map element (range_with_len 0 n)) (element n ∷ []) first second
    ∙ ap (λ (es : List Element). t0 ++ print es) (mapped_range element n)

-- the line of one more item
pub listed_lines : {X : Type 0} (element : X → Element) (xs : List X) (x d : X) (t0 t1 t2 : List ℕ) (n : ℕ) → n < length xs → x ≡ get_or xs n d
    → t1 ≡ t0 ++ print (map element (take n xs)) → t2 ≡ t1 ++ print (element x ∷ []) → t2 ≡ t0 ++ print (map element (take (n + 1) xs))
listed_lines element xs x d t0 t1 t2 n within is first second =
    more_elements t0 t1 t2 (map element (take n xs)) (element x ∷ []) first second
    ∙ ap (λ (es : List Element). t0 ++ print es) (mapped_take element xs x d n within is)

-- the elements of one more item
pub listed_elements : {X : Type 0} (elements : X → List Element) (xs : List X) (x d : X) (t0 t1 t2 : List ℕ) (n : ℕ) → n < length xs → x ≡ get_or xs n d
    → t1 ≡ t0 ++ print (flat_map elements (take n xs)) → t2 ≡ t1 ++ print (elements x) → t2 ≡ t0 ++ print (flat_map elements (take (n + 1) xs))
listed_elements elements xs x d t0 t1 t2 n within is first second =
    more_elements t0 t1 t2 (flat_map elements (take n xs)) (elements x) first second
    ∙ ap (λ (es : List Element). t0 ++ print es) (flat_take elements xs x d n within is)

-- the pieces of one more item
pub listed_pieces : {X : Type 0} (pieces : X → List Piece) (xs : List X) (x d : X) (t0 t1 t2 : List ℕ) (n : ℕ) → n < length xs → x ≡ get_or xs n d
    → t1 ≡ t0 ++ pieces_text (flat_map pieces (take n xs)) → t2 ≡ t1 ++ pieces_text (pieces x) → t2 ≡ t0 ++ pieces_text (flat_map pieces (take (n + 1) xs))
listed_pieces pieces xs x d t0 t1 t2 n within is first second =
    more_pieces t0 t1 t2 (flat_map pieces (take n xs)) (pieces x) first second
    ∙ ap (λ (ps : List Piece). t0 ++ pieces_text ps) (flat_take pieces xs x d n within is)

-- all items
pub all_pieces : {X : Type 0} (pieces : X → List Piece) (xs : List X) (t0 t1 : List ℕ) (n : ℕ) → length xs ≤ n
    → t1 ≡ t0 ++ pieces_text (flat_map pieces (take n xs)) → t1 ≡ t0 ++ pieces_text (flat_map pieces xs)
all_pieces pieces xs t0 t1 n all is = is ∙ ap (λ ys. t0 ++ pieces_text (flat_map pieces ys)) (take_all n xs all)

pub all_elements : {X : Type 0} (elements : X → List Element) (xs : List X) (t0 t1 : List ℕ) (n : ℕ) → length xs ≤ n
    → t1 ≡ t0 ++ print (flat_map elements (take n xs)) → t1 ≡ t0 ++ print (flat_map elements xs)
all_elements elements xs t0 t1 n all is = is ∙ ap (λ ys. t0 ++ print (flat_map elements ys)) (take_all n xs all)

pub all_lines : {X : Type 0} (element : X → Element) (xs : List X) (t0 t1 : List ℕ) (n : ℕ) → length xs ≤ n
    → t1 ≡ t0 ++ print (map element (take n xs)) → t1 ≡ t0 ++ print (map element xs)
all_lines element xs t0 t1 n all is = is ∙ ap (λ ys. t0 ++ print (map element ys)) (take_all n xs all)

-- all numbers
pub all_numbered : (elements : ℕ → List Element) (t0 t1 : List ℕ) (n m : ℕ) → n ≡ m
    → t1 ≡ t0 ++ print (flat_map elements (range_with_len 0 n)) → t1 ≡ t0 ++ print (flat_map elements (range_with_len 0 m))
all_numbered elements t0 t1 n m all is = is ∙ ap (λ k. t0 ++ print (flat_map elements (range_with_len 0 k))) all

pub all_numbered_lines : (element : ℕ → Element) (t0 t1 : List ℕ) (n m : ℕ) → n ≡ m
    → t1 ≡ t0 ++ print (map element (range_with_len 0 n)) → t1 ≡ t0 ++ print (map element (range_with_len 0 m))
all_numbered_lines element t0 t1 n m all is = is ∙ ap (λ k. t0 ++ print (map element (range_with_len 0 k))) all

pub all_numbered_pieces : (pieces : ℕ → List Piece) (t0 t1 : List ℕ) (n m : ℕ) → n ≡ m
    → t1 ≡ t0 ++ pieces_text (flat_map pieces (range_with_len 0 n)) → t1 ≡ t0 ++ pieces_text (flat_map pieces (range_with_len 0 m))
all_numbered_pieces pieces t0 t1 n m all is = is ∙ ap (λ k. t0 ++ pieces_text (flat_map pieces (range_with_len 0 k))) all
