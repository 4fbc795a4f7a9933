use Rattle.std.proofs.Common.{◌≡◌, ◌^◌, ◌<◌, take}
use Rattle.std.specs.Str.Parse.{AllDigits, digits_value}
use Rattle.cl_text.proofs.decimal.number_of_digits.Given as goal

-- the bytes so far are digits, and write the number
abbrev pub invariant-loop-digit : goal.invariant-loop-digit
invariant-loop-digit l = record {
  digits : AllDigits 10 (take l.digit-index l.digits);
  number : digits_value 10 (take l.digit-index l.digits) ≡ l.number;
  fits : l.number < 2 ^ 64;
}
