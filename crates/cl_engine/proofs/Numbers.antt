-- Numbers that words write.
use Rattle.std.proofs.Common.{◌≡◌, ℕ, zero, suc, ◌+◌, ◌^◌, ◌<◌, ◌≤◌, true, List, [], ◌∷◌, length, drop, Option, Some, None, cond, leb, refl, sym, ap, ◌∙◌, arith}
use Rattle.std.specs.Prelude.{decimal, IfSome, ◌&&◌}
use Rattle.std.specs.Str.{bytes_eq}
use Rattle.std.proofs.lemmas.Bool.Decides.{nat_tests}
use Rattle.std.proofs.lemmas.Slice.Eq.{bytes_eq-Decides}
use Rattle.cl_text.specs.Decimal.{number_of}
use Rattle.cl_text.proofs.DecimalLemmas.{grammar_of_decimal}
use Rattle.cl_engine.specs.{declared.words.Bounds.Bounds, Words.{number_within, two_numbers}}

module _ (bounds : Bounds) (word : List ℕ) where
  -- the word's own digits are those of its number, within the bounds
  pub written : (n : ℕ) → word ≡ decimal n → bounds.least ≤ n → n ≤ bounds.most → bounds.most < 2 ^ 64 → number_within bounds word ≡ Some n
  written n writes high low small =
      let number : number_of word ≡ n = (grammar_of_decimal word n (omega arith) writes).value in
      let equal : bytes_eq word (decimal (number_of word)) ≡ true
      = (bytes_eq-Decides word (decimal (number_of word))).1 (writes ∙ ap decimal (sym number)) in
      let below : leb (number_of word) bounds.most ≡ true = grind (arith, nat_tests) in
      let above : leb bounds.least (number_of word) ≡ true = grind (arith, nat_tests) in
      ap (λ b. cond (b && leb (number_of word) bounds.most && leb bounds.least (number_of word)) (Some (number_of word)) None) equal
      ∙ ap (λ b. cond (b && leb bounds.least (number_of word)) (Some (number_of word)) None) below
      ∙ ap (λ b. cond b (Some (number_of word)) None) above ∙ ap Some number

  -- what is read of a word, where it is within the bounds
  pub read_within : (n : ℕ) (read : Option ℕ) → bounds.most < 2 ^ 64 → IfSome read (λ n. (word ≡ decimal n) × (n ≤ bounds.most)) → read ≡ Some n → bounds.least ≤ n
      → Some n ≡ number_within bounds word
  read_within n (Some m) small some is high =
      let same : m ≡ n = cc in
      sym (written n (some.0 ∙ ap decimal same) high (omega (arith, some.1, same)) small)
  read_within n None small some is high = absurd cc

-- ---- the two words from a place on

module _ (one other : Bounds) where
  pub not_two : (place : ℕ) (words : List (List ℕ)) → (length words ≡ place + 2 → ⊥) → None ≡ two_numbers one other (drop place words)
  not_two zero [] differs = refl
  not_two zero (a ∷ []) differs = refl
  not_two zero (a ∷ b ∷ []) differs = absurd (differs (omega arith))
  not_two zero (a ∷ b ∷ c ∷ words) differs = refl
  not_two (suc place) [] differs = refl
  not_two (suc place) (a ∷ words) differs = not_two place words (λ is. differs (omega (arith, is)))
