use Rattle.std.proofs.Common.{◌-◌, ◌^◌, ◌<◌, ◌∷◌, ◌++◌, length, drop, ap, sym, ◌∙◌, refl, arith}
use Rattle.std.specs.Prelude.{decimal}
use Rattle.std.proofs.lemmas.Bool.{false≢true}
use Rattle.std.proofs.lemmas.List.{length-drop, take_all}
use Rattle.cl_trace.proofs.{PieceFacts.behind_blank, LeadingDigits.{digits_are_printed, number_of_printed, rest_of_printed, printed_passes}, pieces.number_after.Goals.{else-number-most-via-then-number-most+else-are_printed, else-number-most-via-else-number-most}}
use Rattle.cl_trace.proofs.pieces.number_after.Goals as goal

pub returns-then-are_printed-clause-some : goal.returns-then-are_printed-clause-some
returns-then-are_printed-clause-some c =
    let digits = c.in_ok-digits.digits.now in
    let count = c.in_ok-number.count in
    let all = take_all (length digits - count) (drop count digits) (omega (arith, length-drop count digits)) in
    let passes = c.if-are_printed.ensures.0 refl in (
      c.in_ok-digits.ensures.some ∙ ap (λ t. 32 ∷ t) (digits_are_printed digits count c.in_ok-number.number c.in_ok-number.ensures.some passes.0 passes.1
          ∙ ap (λ t. decimal c.in_ok-number.number ++ t) (sym all)),
      omega arith,
    )

pub returns-then-are_printed-clause-only : goal.returns-then-are_printed-clause-only
returns-then-are_printed-clause-only c = λ n byte rest most other fits.
    let digits = c.in_ok-digits.digits.now in
    let count = c.in_ok-number.count in
    let small : n < 2 ^ 64 = omega arith in
    let all = take_all (length digits - count) (drop count digits) (omega (arith, length-drop count digits)) in
    let is = behind_blank c.args.text.now digits rest n byte c.in_ok-digits.ensures.some fits in (
      number_of_printed digits rest n byte small other is count c.in_ok-number.number c.in_ok-number.ensures.some,
      all ∙ rest_of_printed digits rest n byte small other is count c.in_ok-number.number c.in_ok-number.ensures.some,
    )

pub returns-else-number-most-clause-only : goal.returns-else-number-most-clause-only
returns-else-number-most-clause-only c = λ n byte rest most other fits.
    let digits = c.in_ok-digits.digits.now in
    let count = c.in_ok-number.count in
    let small : n < 2 ^ 64 = omega arith in
    let is = behind_blank c.args.text.now digits rest n byte c.in_ok-digits.ensures.some fits in
    let same = number_of_printed digits rest n byte small other is count c.in_ok-number.number c.in_ok-number.ensures.some in
    let passes = printed_passes digits rest n byte small other is count c.in_ok-number.number c.in_ok-number.ensures.some in
    elim c.else-number-most.branch [
      | else-number-most-via-then-number-most+else-are_printed w ↦ absurd (false≢true (w.if-are_printed.ensures.1 passes))
      | else-number-most-via-else-number-most w ↦ absurd (omega (arith, same, most, w.if-number-most.false))
    ]
