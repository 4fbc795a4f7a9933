-- The digits that a text begins with, and the printed number that they are.
use Rattle.std.proofs.Common.{◌≡◌, ℕ, ◌+◌, ◌-◌, ◌*◌, ◌^◌, ◌<◌, ◌≤◌, inl, inr, false, List, ◌∷◌, ◌++◌, length, get_or, take, drop, refl, sym, ap, subst, ◌∙◌, arith}
use Rattle.std.specs.Prelude.{decimal}
use Rattle.std.specs.Char.{IsAsciiDigit}
use Rattle.std.specs.Str.Parse.{AllDigits, IsNumeral, digits_value}
use Rattle.std.proofs.Math.Seq.{get_or-append_seam, take-append_seam, drop-append_seam}
use Rattle.std.proofs.lemmas.Bool.{cases_lt}
use Rattle.std.proofs.lemmas.Bool.Decides.{nat_tests}
use Rattle.std.proofs.lemmas.List.{get_or_append_left, get_or-take, length-append, length-take, length-take-le, take-append-drop, take-append-le}
use Rattle.std.proofs.Math.Nat.{pow-le-pow_right}
use Rattle.std.proofs.lemmas.Int.Digits.{digits_value-lt}
use Rattle.std.proofs.lemmas.Str.Parse.{digit_at}
use Rattle.cl_text.specs.Line.{is_graphic}
use Rattle.cl_text.proofs.DecimalLemmas.{numeral_of_decimal, lone_zero_of_decimal, decimal_of_numeral, one_more_digit_le}
use Rattle.cl_trace.specs.Inner.Pieces.{AreDigitsOf}

-- a byte that ends a word is no digit
no_digit : (byte : ℕ) → is_graphic byte ≡ false → ¬ IsAsciiDigit byte
no_digit byte other digit = grind (arith, nat_tests, digit)

-- digits without a leading zero are the printed form of their number
pub digits_are_printed : (text : List ℕ) (count number : ℕ) → AreDigitsOf text count number → 0 < count → (get_or text 0 0 ≡ 48 → count ≡ 1)
    → text ≡ decimal number ++ drop count text
digits_are_printed text count number is some lead =
    let size = length-take-le count text is.within in
    let word : take count text ≡ decimal (digits_value 10 (take count text))
    = decimal_of_numeral (take count text) (omega (arith, size, some), is.digits)
    (λ zero. size ∙ lead (sym (get_or-take count text 0 0 some) ∙ zero)) (omega (arith, is.value, is.fits)) in
    sym (take-append-drop count text) ∙ ap (λ w. w ++ drop count text) (word ∙ ap decimal is.value)

module _ (text rest : List ℕ) (n byte : ℕ) (small : n < 2 ^ 64) (other : is_graphic byte ≡ false) (is : text ≡ decimal n ++ byte ∷ rest) where
  numeral : IsNumeral 10 (decimal n) × (digits_value 10 (decimal n) ≡ n)
  numeral = numeral_of_decimal (decimal n) n small refl

  -- its digits are those of the text, and the byte behind them is none
  inside : (k : ℕ) → k < length (decimal n) → get_or text k 0 ≡ get_or (decimal n) k 0
  inside k h = ap (λ (t : List ℕ). get_or t k 0) is ∙ get_or_append_left (decimal n) (byte ∷ rest) 0 k h

  behind : get_or text (length (decimal n)) 0 ≡ byte
  behind = ap (λ (t : List ℕ). get_or t (length (decimal n)) 0) is ∙ get_or-append_seam (decimal n) byte rest 0

  size : length (decimal n) < length text
  size = omega (arith, ap length is, length-append (decimal n) (byte ∷ rest))

  -- so digits reach no further than the number
  no_more : (count : ℕ) → count ≤ length text → AllDigits 10 (take count text) → count ≤ length (decimal n)
  no_more count within digits = elim (cases_lt (length (decimal n)) count) [
    | inl more ↦ absurd (no_digit byte other (subst IsAsciiDigit (get_or-take count text (length (decimal n)) 0 more ∙ behind)
        (digit_at (take count text) (length (decimal n)) digits (omega (arith, more, length-take-le count text within)))))
    | inr not ↦ omega (arith, not)
  ]

  -- the digits that a text begins with are as many as those of the number
  pub count_of_printed : (count number : ℕ) → AreDigitsOf text count number → count ≡ length (decimal n)
  count_of_printed count number found = elim (cases_lt count (length (decimal n))) [
    | inl less ↦ absurd (found.ends (omega (arith, less, size))
        (subst IsAsciiDigit (sym (inside count less)) (digit_at (decimal n) count numeral.0.1 less)))
    | inr not ↦ omega (arith, not, no_more count found.within found.digits)
  ]

  -- and they write it
  pub number_of_printed : (count number : ℕ) → AreDigitsOf text count number → number ≡ n
  number_of_printed count number found =
      let all : take count text ≡ decimal n
      = ap (λ k. take k text) (count_of_printed count number found) ∙ ap (take (length (decimal n))) is ∙ take-append_seam (decimal n) (byte ∷ rest) in
      sym found.value ∙ ap (digits_value 10) all ∙ numeral.1

  pub rest_of_printed : (count number : ℕ) → AreDigitsOf text count number → drop count text ≡ byte ∷ rest
  rest_of_printed count number found =
      ap (λ k. drop k text) (count_of_printed count number found) ∙ ap (drop (length (decimal n))) is ∙ drop-append_seam (decimal n) (byte ∷ rest)

  -- and they are printed
  pub printed_passes : (count number : ℕ) → AreDigitsOf text count number → (0 < count) × (get_or text 0 0 ≡ 48 → count ≡ 1)
  printed_passes count number found =
      let same = count_of_printed count number found in
      let some : 0 < length (decimal n) = numeral.0.0 in (
        omega (arith, same, some),
        λ zero. same ∙ lone_zero_of_decimal (decimal n) n small refl (sym (inside 0 some) ∙ zero),
      )

  -- what the digits up to a place write is no more than the number
  pub printed_bounds : (count : ℕ) → count < length text → AllDigits 10 (take count text) → IsAsciiDigit (get_or text count 0)
      → digits_value 10 (take count text) * 10 + (get_or text count 0 - 48) ≤ n
  printed_bounds count within digits digit =
      let before = no_more count (omega (arith, within)) digits in
      let inside_it : count < length (decimal n) = elim (cases_lt count (length (decimal n))) [
        | inl less ↦ less
        | inr not ↦
            let same : length (decimal n) ≡ count = omega (arith, not, before) in
            absurd (no_digit byte other (subst IsAsciiDigit (ap (λ k. get_or text k 0) (sym same) ∙ behind) digit))
      ] in
      let part : take count text ≡ take count (decimal n) = ap (take count) is ∙ take-append-le count (decimal n) (byte ∷ rest) before in
      let here = inside count inside_it in
      omega (
        arith,
        ap (digits_value 10) part,
        here,
        numeral.1,
        one_more_digit_le (decimal n) count inside_it (subst IsAsciiDigit here digit),
      )

-- at most 18 digits write a number below 10 ^ 18
pub few_digits_bound : (text : List ℕ) (count number : ℕ) → count < 19 → AllDigits 10 (take count text) → digits_value 10 (take count text) ≡ number
    → number < 1000000000000000000
few_digits_bound text count number few digits value =
    let most : length (take count text) ≤ 18 = omega (arith, few, length-take count text) in
    omega (arith, value, digits_value-lt 10 (take count text) digits, pow-le-pow_right {n = 10} (omega arith) most)
