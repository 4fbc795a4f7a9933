use Rattle.std.proofs.Common.{arith}
use Rattle.std.proofs.lemmas.Int.Digits.{digits_more}
use Rattle.cl_text.proofs.DecimalLemmas.{one_more_digit}
use Rattle.cl_trace.proofs.LeadingDigits.{printed_bounds}
use Rattle.cl_trace.proofs.pieces.many_digits_of.Goals as goal

pub returns-in_err-checked_mul-clause-none : goal.returns-in_err-checked_mul-clause-none
returns-in_err-checked_mul-clause-none c = rw c.from_residual.ensures (λ n byte rest small other is.
    let le = printed_bounds c.args.text.now rest n byte small other is c.loop-count.count (omega arith) c.loop-count.invariant.digits c.if-not-is_ascii_digit.ensures.cases in
    c.in_err-checked_mul.ensures (omega (arith, le, small, c.loop-count.invariant.value)))

pub returns-in_err-number-clause-none : goal.returns-in_err-number-clause-none
returns-in_err-number-clause-none c = rw c.from_residual-in_err-number.ensures (λ n byte rest small other is.
    let le = printed_bounds c.args.text.now rest n byte small other is c.loop-count.count (omega arith) c.loop-count.invariant.digits c.if-not-is_ascii_digit.ensures.cases in
    c.in_err-number.ensures (omega (arith, le, small, c.loop-count.invariant.value, c.from.ensures, c.in_ok-checked_mul.ensures)))

pub loop-count-preserved : goal.loop-count-preserved
loop-count-preserved c =
    let i = c.loop-count.count in
    let bs = c.args.text.now in
    record {
      digits = digits_more 10 bs i (omega arith) c.loop-count.invariant.digits c.if-not-is_ascii_digit.ensures.bound;
      value = omega (arith, one_more_digit bs i (omega arith) c.if-not-is_ascii_digit.ensures.cases, c.loop-count.invariant.value, c.from.ensures, c.in_ok-number.ensures, c.in_ok-checked_mul.ensures);
      fits = omega (arith, c.in_ok-number.ensures);
    }
