-- The first byte 0x0A, by its place and by the text before it, and words that are found whole.
use Rattle.std.proofs.Common.{◌≡◌, ◌≢◌, ℕ, ◌-◌, ◌^◌, ◌<◌, true, false, List, ◌∷◌, ◌++◌, Option, Some, None, length, length-append, length-drop, get_or, take, drop, arith, eq-eqb, ◌∙◌, ap, refl, sym, subst}
use Rattle.std.specs.Prelude.{Contains, decimal}
use Rattle.std.specs.Char.{IsAsciiDigit}
use Rattle.std.specs.List.{AllPass, position_or_len, prefix_len}
use Rattle.std.proofs.lemmas.Bool.{false_from_ne_true, eqb-true}
use Rattle.std.proofs.lemmas.Bool.Decides.{nat_tests}
use Rattle.std.proofs.lemmas.Grind.{common_steps}
use Rattle.std.proofs.lemmas.List.{get_or_append_left, get_or_default, get_or-take, length-take-le, take_all}
use Rattle.std.proofs.lemmas.List.Sums.{position_or_len_is, prefix_len_is}
use Rattle.std.proofs.Math.Seq.{get_or-append_seam, take-append_seam, take-length}
use Rattle.memchr.specs.Find.{IsFirstByte, NoneBefore, Passes, is_byte}
use Rattle.cl_text.specs.Line.{first_word, is_graphic, line_end}
use Rattle.cl_text.proofs.DecimalLemmas.{grammar_of_decimal}

-- the slice from a place on is the rest of the text
pub first_of_rest : (text : List ℕ) (from : ℕ) (answer : Option ℕ) → IsFirstByte (is_byte 10) (take (length text - from) (drop from text)) answer → IsFirstByte (is_byte 10) (drop from text) answer
first_of_rest text from answer first =
    subst (λ rest. IsFirstByte (is_byte 10) rest answer) (take_all (length text - from) (drop from text) (omega (arith, length-drop from text))) first

-- what the search answers is the first place that the definition names
pub line_end_of_first : (text : List ℕ) (answer : Option ℕ) → IsFirstByte (is_byte 10) text answer → answer ≡ line_end text
line_end_of_first text None nowhere =
    let all : position_or_len (is_byte 10) text ≡ length text =
    position_or_len_is (is_byte 10) text (length text) 0 (omega arith)
    (λ k below. false_from_ne_true _ (nowhere k (omega arith) below))
    (λ short. absurd (omega arith)) in
    grind (arith, common_steps, nat_tests, all)
line_end_of_first text (Some place) found =
    let here : position_or_len (is_byte 10) text ≡ place =
    position_or_len_is (is_byte 10) text place 0 (omega arith)
    (λ k below. false_from_ne_true _ (found.0.before k (omega arith) below))
    (λ _. found.1) in
    grind (arith, common_steps, nat_tests, here)

-- no byte before the first 0x0A is one
pub none_before : (text : List ℕ) (place : ℕ) → IsFirstByte (is_byte 10) text (Some place) → ¬ Contains (take place text) 10
none_before text place found = λ at.
    let below : at.0 < place = omega (arith, at.1, length-take-le place text (omega arith)) in
    found.0.before at.0 (omega arith) below (eq-eqb _ _ (get_or_default text at.0 0 10 (omega arith) ∙ sym (get_or-take place text at.0 10 below) ∙ at.2))

-- and none is where the search found none
pub none_at_all : (text : List ℕ) → IsFirstByte (is_byte 10) text None → ¬ Contains text 10
none_at_all text nowhere = λ at. nowhere at.0 (omega arith) at.1 (eq-eqb _ _ (get_or_default text at.0 0 10 at.1 ∙ at.2))

-- a text without 0x0A has it at no place
absent : (text : List ℕ) → ¬ Contains text 10 → (k : ℕ) → k < length text → get_or text k 0 ≢ 10
absent text free k within is = free (k, within, get_or_default text k 10 0 within ∙ is)

-- so no line ends in it
pub line_end-unended : (rest : List ℕ) → ¬ Contains rest 10 → line_end rest ≡ None
line_end-unended rest free = sym (line_end_of_first rest None (λ k low below passes. absent rest free k below (eqb-true _ _ passes)))

-- and followed by 0x0A it is a line
pub line_end-ended : (line rest : List ℕ) → ¬ Contains line 10 → line_end (line ++ 10 ∷ rest) ≡ Some (length line)
line_end-ended line rest free = sym (line_end_of_first (line ++ 10 ∷ rest) (Some (length line)) (found, ap (is_byte 10) (get_or-append_seam line 10 rest 0)))
  where
    found : NoneBefore (Passes (is_byte 10) (line ++ 10 ∷ rest)) 0 (length (line ++ 10 ∷ rest)) (length line)
    found = record {
      low = omega arith;
      high = omega (arith, length-append line (10 ∷ rest));
      before = λ k low below passes. absent line free k below (sym (get_or_append_left line (10 ∷ rest) 0 k below) ∙ eqb-true _ _ passes);
    }

-- a run of word bytes is the first word where another byte follows it
pub first_word-ended : (word rest : List ℕ) (byte : ℕ) → AllPass is_graphic word → is_graphic byte ≡ false → first_word (word ++ byte ∷ rest) ≡ word
first_word-ended word rest byte graphic other =
    let size : prefix_len is_graphic (word ++ byte ∷ rest) ≡ length word =
    prefix_len_is is_graphic (word ++ byte ∷ rest) (length word) 0 (omega (arith, length-append word (byte ∷ rest)))
    (λ k below. ap is_graphic (get_or_append_left word (byte ∷ rest) 0 k below) ∙ graphic k 0 below)
    (λ _. ap is_graphic (get_or-append_seam word byte rest 0) ∙ other) in
    ap (λ n. take n (word ++ byte ∷ rest)) size ∙ take-append_seam word (byte ∷ rest)

-- and at the end
pub first_word-last : (word : List ℕ) → AllPass is_graphic word → first_word word ≡ word
first_word-last word graphic =
    let size : prefix_len is_graphic word ≡ length word =
    prefix_len_is is_graphic word (length word) 0 (omega arith) (λ k below. graphic k 0 below) (λ short. absurd (omega arith)) in
    ap (λ n. take n word) size ∙ take-length word

-- 0x0A is no word byte
pub unbroken_word : (word : List ℕ) → AllPass is_graphic word → ¬ Contains word 10
unbroken_word word graphic = λ at.
    let blank : is_graphic 10 ≡ true = subst (λ byte. is_graphic byte ≡ true) at.2 (graphic at.0 10 at.1) in
    cc

-- digits are word bytes
graphic_digit : (byte : ℕ) → IsAsciiDigit byte → is_graphic byte ≡ true
graphic_digit byte digit = grind (arith, nat_tests)

pub graphic_decimal : (n : ℕ) → n < 2 ^ 64 → AllPass is_graphic (decimal n)
graphic_decimal n small = λ k d within. graphic_digit _ ((grammar_of_decimal (decimal n) n small refl).digits k d within)
