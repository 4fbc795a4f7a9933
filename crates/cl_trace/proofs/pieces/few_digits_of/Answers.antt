use Rattle.std.proofs.Common.{ℕ, ◌<◌, inl, inr, length, subst, arith}
use Rattle.std.specs.Char.{digit_value, IsAsciiDigit, IsNotAsciiDigit}
use Rattle.std.proofs.lemmas.Int.Digits.{digits_more}
use Rattle.std.proofs.lemmas.List.{get_or-take, length-take}
use Rattle.cl_text.proofs.DecimalLemmas.{one_more_digit}
use Rattle.cl_trace.proofs.LeadingDigits.{few_digits_bound}
use Rattle.cl_trace.proofs.pieces.few_digits_of.Goals as goal

not_both : (byte : ℕ) → IsNotAsciiDigit byte → IsAsciiDigit byte → ⊥
not_both byte other digit = elim other [
  | inl less ↦ absurd (omega (arith, less, digit))
  | inr more ↦ absurd (omega (arith, more, digit))
]

pub overflow_mul-number : goal.overflow_mul-number
overflow_mul-number c =
    let few : c.loop-count.count < 19 = omega (arith, c.loop-count-test.true, length-take 19 c.args.text.now) in
    omega (arith, few_digits_bound c.args.text.now c.loop-count.count c.loop-count.number few c.loop-count.invariant.digits c.loop-count.invariant.value)

pub overflow_add-number : goal.overflow_add-number
overflow_add-number c =
    let few : c.loop-count.count < 19 = omega (arith, c.loop-count-test.true, length-take 19 c.args.text.now) in
    omega (
      arith,
      few_digits_bound c.args.text.now c.loop-count.count c.loop-count.number few c.loop-count.invariant.digits c.loop-count.invariant.value,
      c.from.ensures,
    )

pub loop-count-preserved : goal.loop-count-preserved
loop-count-preserved c =
    let i = c.loop-count.count in
    let bs = c.args.text.now in
    let few : i < 19 = omega (arith, c.loop-count-test.true, length-take 19 bs) in
    let within : i < length bs = omega (arith, c.loop-count-test.true, length-take 19 bs) in
    let same = get_or-take 19 bs i 0 few in
    record {
      digits = digits_more 10 bs i within c.loop-count.invariant.digits (subst (λ b. digit_value b < 10) same c.if-not-is_ascii_digit.ensures.bound);
      value = omega (
        arith,
        one_more_digit bs i within (subst IsAsciiDigit same c.if-not-is_ascii_digit.ensures.cases),
        same,
        c.loop-count.invariant.value,
        c.from.ensures,
      );
    }

pub returns-then-not-is_ascii_digit : goal.returns-then-not-is_ascii_digit
returns-then-not-is_ascii_digit c =
    let i = c.loop-count.count in
    let bs = c.args.text.now in
    let few : i < 19 = omega (arith, c.loop-count-test.true, length-take 19 bs) in
    let within : i < length bs = omega (arith, c.loop-count-test.true, length-take 19 bs) in
    let same = get_or-take 19 bs i 0 few in
    record {
      within = omega (arith, within);
      digits = c.loop-count.invariant.digits;
      value = c.loop-count.invariant.value;
      fits = omega (arith, few_digits_bound bs i c.loop-count.number few c.loop-count.invariant.digits c.loop-count.invariant.value);
      ends = λ _ digit. not_both _ (subst IsNotAsciiDigit same c.if-not-is_ascii_digit.ensures.cases) digit;
    }
