-- Words of which a beginning stands after a text.
use Rattle.std.proofs.Common.{◌≡◌, ℕ, zero, suc, ◌+◌, ◌<◌, Ok, Err, Result, List, [], ◌∷◌, ◌++◌, refl, sym, ap, subst, ◌∙◌, arith}
use Rattle.std.specs.Prelude.{OnErr}
use Rattle.std.specs.List.{flat_map, range_with_len}
use Rattle.std.proofs.lemmas.Grind.{flat_map-append}
use Rattle.std.proofs.lemmas.List.{append-nil, append_assoc}
use Rattle.cl_time.specs.declared.no_memory.NoMemory.{NoMemory}
use Rattle.cl_text.specs.Beginnings.{PutsPart}

-- none of the words
pub puts_none : (old new words : List ℕ) → new ≡ old → PutsPart old new words
puts_none old new words same = record { put = []; rest = words; words_are = refl; text_is = same ∙ sym (append-nil old) }

-- a beginning of the first of two pieces
pub puts_first : (old new first second : List ℕ) → PutsPart old new first → PutsPart old new (first ++ second)
puts_first old new first second part = record {
  put = part.put;
  rest = part.rest ++ second;
  words_are = ap (λ words. words ++ second) part.words_are ∙ append_assoc part.put part.rest second;
  text_is = part.text_is;
}

-- the first, and a beginning of the second
pub puts_second : (old between new first second : List ℕ) → between ≡ old ++ first → PutsPart between new second → PutsPart old new (first ++ second)
puts_second old between new first second was part = record {
  put = first ++ part.put;
  rest = part.rest;
  words_are = ap (λ words. first ++ words) part.words_are ∙ sym (append_assoc first part.put part.rest);
  text_is = part.text_is ∙ ap (λ text. text ++ part.put) was ∙ append_assoc old first part.put;
}

-- the numbers before one of n numbers, that one, and those behind it
pub numbers_around : (first place count : ℕ) → place < count
    → (rest : List ℕ) × (range_with_len first count ≡ range_with_len first place ++ (first + place) ∷ rest)
numbers_around first place zero lt = absurd (omega (arith, lt))
numbers_around first zero (suc count) lt =
    let here : first ≡ first + 0 = omega arith in
    (range_with_len (first + 1) count, ap (λ n. n ∷ range_with_len (first + 1) count) here)
numbers_around first (suc place) (suc count) lt =
    let next : first + 1 + place ≡ first + suc place = omega arith in
    let (rest, is) = numbers_around (first + 1) place count (omega (arith, lt)) in
    (rest, ap (λ numbers. first ∷ numbers) (is ∙ ap (λ n. range_with_len (first + 1) place ++ n ∷ rest) next))

-- the lines before one of n numbers, with a beginning of that one after them
pub puts_lines : (line : ℕ → List ℕ) (old before new : List ℕ) (place count : ℕ) → place < count
    → before ≡ old ++ flat_map line (range_with_len 0 place) → PutsPart before new (line place)
    → PutsPart old new (flat_map line (range_with_len 0 count))
puts_lines line old before new place count lt was part =
    let (rest, is) = numbers_around 0 place count lt in
    let here : place ≡ 0 + place = omega arith in
    let own = subst (λ n. PutsPart before new (line n)) here part in
    subst (PutsPart old new) (sym (ap (flat_map line) is ∙ flat_map-append line (range_with_len 0 place) ((0 + place) ∷ rest)))
    (puts_second old before new (flat_map line (range_with_len 0 place)) (flat_map line ((0 + place) ∷ rest)) was
    (puts_first before new (line (0 + place)) (flat_map line rest) own))

-- what holds holds where there is an error
pub on_error : (result : Result (Unit {0}) NoMemory) (P : Type 0) → P → OnErr result P
on_error (Ok u) P holds = _
on_error (Err e) P holds = holds
