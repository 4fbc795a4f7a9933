use Rattle.std.proofs.Common.{◌^◌, ◌<◌, sym, ap, ◌∙◌, arith}
use Rattle.std.proofs.lemmas.Fmt.{decimal_injective}
use Rattle.cl_edit.specs.Inner.Fields.{decimal_from}
use Rattle.cl_edit.proofs.FieldFacts.{number_read, no_number}
use Rattle.cl_edit.proofs.fields.number_of.Goals as goal

pub returns-then-least-number : goal.returns-then-least-number
returns-then-least-number c =
    ap (decimal_from c.args.least c.args.most) c.in-Some.ensures.some.0
    ∙ number_read c.args.least c.args.most c.in-Some.number (omega arith) (omega arith) c.in-Some.ensures.some.1

pub returns-else-least-number : goal.returns-else-least-number
returns-else-least-number c = no_number c.args.least c.args.most c.args.word.now (λ n low high is.
    let small : n < 2 ^ 64 = omega arith in
    let same = decimal_injective c.in-Some.number n (omega arith) small (sym c.in-Some.ensures.some.0 ∙ is) in
    absurd (omega arith))

pub returns-in_default : goal.returns-in_default
returns-in_default c = no_number c.args.least c.args.most c.args.word.now (λ n low high is. c.in_default.ensures.none n high is)
