use Rattle.std.proofs.Common.{ap, ◌∙◌, arith}
use Rattle.cl_engine.specs.Words.{number_within}
use Rattle.cl_engine.proofs.Numbers.{read_within}
use Rattle.cl_engine.proofs.words.number_at.Goals as goal

pub returns-in-Some : goal.returns-in-Some
returns-in-Some c =
    read_within c.args.bounds c.as_bytes.result.now c.in-Some.number c.read_decimal.result (omega arith) c.read_decimal.ensures.some c.in-Some.is c.if-bounds-number.true
    ∙ ap (number_within c.args.bounds) (c.as_bytes.ensures.value ∙ c.word_at.ensures)
