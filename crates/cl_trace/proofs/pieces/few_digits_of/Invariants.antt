use Rattle.std.proofs.Common.{◌≡◌, take}
use Rattle.std.specs.Str.Parse.{AllDigits, digits_value}
use Rattle.cl_trace.proofs.pieces.few_digits_of.Given as goal

-- the bytes so far are digits, and write the number
abbrev pub invariant-loop-count : goal.invariant-loop-count
invariant-loop-count l = record {
  digits : AllDigits 10 (take l.count l.text);
  value : digits_value 10 (take l.count l.text) ≡ l.number;
}
