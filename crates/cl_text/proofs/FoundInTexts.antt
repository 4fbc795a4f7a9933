-- Lines, words and printed numbers where they stand in a text.
use Rattle.std.proofs.Common.{◌≡◌, ℕ, ◌+◌, ◌-◌, ◌^◌, ◌<◌, false, List, ◌∷◌, ◌++◌, Some, length, take, drop, ap, ◌∙◌, arith}
use Rattle.std.specs.Prelude.{Contains, slice_range, decimal}
use Rattle.std.specs.List.{AllPass}
use Rattle.std.proofs.Math.Seq.{drop-append_seam, take-append_seam}
use Rattle.cl_text.specs.Line.{first_word, is_graphic, line_end}
use Rattle.cl_text.proofs.LineLemmas.{line_end-ended, first_word-ended, first_word-last, graphic_decimal}

-- the rest of a text from a piece on
rest_from : (text before after : List ℕ) → text ≡ before ++ after → drop (length before) text ≡ after
rest_from text before after is = ap (drop (length before)) is ∙ drop-append_seam before after

pub line_in_text : (text before line rest : List ℕ) → text ≡ before ++ (line ++ 10 ∷ rest) → ¬ Contains line 10
    → line_end (drop (length before) text) ≡ Some (length line)
line_in_text text before line rest is free = ap line_end (rest_from text before (line ++ 10 ∷ rest) is) ∙ line_end-ended line rest free

pub word_in_text : (text before word rest : List ℕ) (byte : ℕ) → text ≡ before ++ (word ++ byte ∷ rest)
    → AllPass is_graphic word → is_graphic byte ≡ false → first_word (drop (length before) text) ≡ word
word_in_text text before word rest byte is graphic other =
    ap first_word (rest_from text before (word ++ byte ∷ rest) is) ∙ first_word-ended word rest byte graphic other

pub last_word_in_text : (text before word : List ℕ) → text ≡ before ++ word → AllPass is_graphic word
    → first_word (drop (length before) text) ≡ word
last_word_in_text text before word is graphic = ap first_word (rest_from text before word is) ∙ first_word-last word graphic

pub piece_of_text : (text before piece rest : List ℕ) → text ≡ before ++ (piece ++ rest)
    → slice_range text (length before) (length before + length piece) ≡ piece
piece_of_text text before piece rest is =
    let size : (length before + length piece) - length before ≡ length piece = omega arith in
    ap (λ n. take n (drop (length before) text)) size
    ∙ ap (take (length piece)) (rest_from text before (piece ++ rest) is)
    ∙ take-append_seam piece rest

-- a printed number is a word where another byte follows it
pub number_in_text : (n : ℕ) (rest : List ℕ) (byte : ℕ) → n < 2 ^ 64 → is_graphic byte ≡ false
    → first_word (decimal n ++ byte ∷ rest) ≡ decimal n
number_in_text n rest byte small other = first_word-ended (decimal n) rest byte (graphic_decimal n small) other
