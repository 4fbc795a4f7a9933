-- Decimals as digits: what std's printed numbers are, and when digits are a printed number.
use Rattle.std.proofs.Common.{◌≡◌, ◌≢◌, ℕ, ◌+◌, ◌-◌, ◌*◌, ◌^◌, ◌<◌, ◌≤◌, List, [], ◌∷◌, length, get_or, take, ap, sym, subst, ◌∙◌, arith, inl, inr, eq-zero-or-pos, refl, rules}
use Rattle.std.specs.Prelude.{decimal}
use Rattle.std.specs.Char.{IsAsciiDigit}
use Rattle.std.specs.Str.Parse.{IsNumeral, digits_value}
use Rattle.std.proofs.lemmas.Str.Parse.{IsNumeralModel, numerals_by_value, numerals_by_weight, tells_by_index, tells_digits, digit_at, digits_value-take-le}
use Rattle.std.proofs.lemmas.Int.Digits.{digits_value_more}
use Rattle.std.proofs.lemmas.Str.{digit_value_digit}
use Rattle.std.proofs.lemmas.List.{get_or_default}
use Rattle.std.proofs.lemmas.Fmt.{decimal_digit, decimal_is_IsNumeral, decimal-digits_value, first_decimal}
use Rattle.cl_text.specs.Decimal.{IsDecimal, number_of}

-- a printed number is digits, and they write it
pub numeral_of_decimal : (word : List ℕ) (n : ℕ) → n < 2 ^ 64 → word ≡ decimal n → IsNumeral 10 word × (digits_value 10 word ≡ n)
numeral_of_decimal word n small is = rw is (decimal_is_IsNumeral n small)

-- a printed number begins with '0' only where it is that digit
pub lone_zero_of_decimal : (word : List ℕ) (n : ℕ) → n < 2 ^ 64 → word ≡ decimal n → get_or word 0 0 ≡ 48 → length word ≡ 1
lone_zero_of_decimal word n small is zero =
    elim (eq-zero-or-pos n) [
      | inl none ↦ ap length is ∙ ap (λ m. length (decimal m)) none ∙ ap length (decimal_digit 0 (omega arith))
      | inr some ↦ absurd (omega (arith, first_decimal n some small, ap (λ w. get_or w 0 0) is))
    ]

-- digits without a leading zero are the printed form of the number that they write
pub decimal_of_numeral : (word : List ℕ) → IsNumeral 10 word → (get_or word 0 0 ≡ 48 → length word ≡ 1) → digits_value 10 word < 2 ^ 64 → word ≡ decimal (digits_value 10 word)
decimal_of_numeral word numeral lead small = sym (decimal-digits_value (numerals_by_value _ tells_digits) word numeral.1 numeral.0 lead small)

-- what tells a printed number from other words
pub ruleset printed_decimals = (numeral_of_decimal, lone_zero_of_decimal, decimal_of_numeral)

-- the number that the digits up to a place write, from the number of those before it
pub one_more_digit : (digits : List ℕ) (place : ℕ) → place < length digits → IsAsciiDigit (get_or digits place 0) → digits_value 10 (take (place + 1) digits) ≡ digits_value 10 (take place digits) * 10 + (get_or digits place 0 - 48)
one_more_digit digits place within digit = omega (arith, digits_value_more 10 digits place within, digit_value_digit (get_or digits place 0) digit)

-- which is no more than all of them write
pub one_more_digit_le : (digits : List ℕ) (place : ℕ) → place < length digits → IsAsciiDigit (get_or digits place 0) → digits_value 10 (take place digits) * 10 + (get_or digits place 0 - 48) ≤ digits_value 10 digits
one_more_digit_le digits place within digit = omega (arith, one_more_digit digits place within digit, digits_value-take-le 10 digits (place + 1) (omega arith))

-- a word that is not empty has a byte
some_from_ne_nil : (word : List ℕ) → word ≢ [] → 0 < length word
some_from_ne_nil [] some = absurd (some refl)
some_from_ne_nil (byte ∷ bytes) some = omega arith

-- the grammar's number is std's
own : IsNumeralModel (λ word. (place : ℕ) → place < length word → IsAsciiDigit (get_or word place 0)) number_of
own = numerals_by_weight _ tells_by_index number_of (search rules)

-- a printed number is in the grammar
pub grammar_of_decimal : (word : List ℕ) (n : ℕ) → n < 2 ^ 64 → word ≡ decimal n → IsDecimal word n
grammar_of_decimal word n small is =
    let numeral = numeral_of_decimal word n small is in
    record {
      not_empty = λ empty. omega (arith, numeral.0.0, ap length empty);
      digits = λ place other within. subst IsAsciiDigit (get_or_default word place 0 other within) (digit_at word place numeral.0.1 within);
      no_leading_zero = lone_zero_of_decimal word n small is;
      value = own.same word numeral.0.1 ∙ numeral.1;
    }

-- and what is in the grammar is printed
pub decimal_of_grammar : (word : List ℕ) (n : ℕ) → n < 2 ^ 64 → IsDecimal word n → word ≡ decimal n
decimal_of_grammar word n small is =
    let digits = own.to word (λ place within. is.digits place 0 within) in
    let value = sym (own.same word digits) ∙ is.value in
    decimal_of_numeral word (some_from_ne_nil word is.not_empty, digits) is.no_leading_zero (omega (arith, value, small)) ∙ ap decimal value
