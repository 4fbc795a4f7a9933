use Rattle.std.proofs.Common.{sym, arith}
use Rattle.std.proofs.lemmas.List.{take_all}
use Rattle.std.proofs.lemmas.Bool.Decides.{nat_tests}
use Rattle.std.proofs.lemmas.Str.Parse.{digit_at}
use Rattle.std.proofs.lemmas.Int.Digits.{digits_more}
use Rattle.cl_text.proofs.DecimalLemmas.{one_more_digit, one_more_digit_le}
use Rattle.cl_text.proofs.decimal.number_of_digits.Goals as goal

pub returns-then-not-is_ascii_digit : goal.returns-then-not-is_ascii_digit
returns-then-not-is_ascii_digit c = λ p. omega (arith, digit_at c.args.digits.now c.loop-digit.digit-index p.0.1 (omega arith), c.if-not-is_ascii_digit.ensures.cases)

pub returns-in_err-checked_mul : goal.returns-in_err-checked_mul
returns-in_err-checked_mul c =
    let le = one_more_digit_le c.args.digits.now c.loop-digit.digit-index (omega arith) c.if-not-is_ascii_digit.ensures.cases in
    rw c.from_residual.ensures (λ p. c.in_err-checked_mul.ensures (omega (arith, p.1)))

pub returns-in_err-number : goal.returns-in_err-number
returns-in_err-number c =
    let le = one_more_digit_le c.args.digits.now c.loop-digit.digit-index (omega arith) c.if-not-is_ascii_digit.ensures.cases in
    rw c.from_residual-in_err-number.ensures (λ p. c.in_err-number.ensures (omega (arith, p.1, c.from.ensures, c.in_ok-checked_mul.ensures)))

pub loop-digit-preserved : goal.loop-digit-preserved
loop-digit-preserved c =
    let i = c.loop-digit.digit-index in
    let bs = c.args.digits.now in
    record {
      digits = digits_more 10 bs i (omega arith) c.loop-digit.invariant.digits c.if-not-is_ascii_digit.ensures.bound;
      number = omega (arith, one_more_digit bs i (omega arith) c.if-not-is_ascii_digit.ensures.cases, c.from.ensures, c.in_ok-number.ensures, c.in_ok-checked_mul.ensures);
      fits = omega (arith, c.in_ok-number.ensures);
    }

pub returns : goal.returns
returns c =
    let whole = take_all c.loop-digit.digit-index c.args.digits.now (omega arith) in
    let digits = rw whole at c.loop-digit.invariant.digits in
    let number = rw whole at c.loop-digit.invariant.number in
    (((grind (arith, nat_tests, c.if-is_empty.ensures), digits), omega arith), sym number)
