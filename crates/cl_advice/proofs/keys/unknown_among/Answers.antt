use Rattle.std.proofs.Common.{refl}
use Rattle.cl_advice.proofs.Documents.{unknown_word}
use Rattle.cl_advice.proofs.keys.unknown_among.Goals as goal

pub returns-in-Some : goal.returns-in-Some
returns-in-Some c = rw (c.as_str.ensures.value, unknown_word c.args.keys.now c.args.table.now.entries, ← c.other_word.ensures, c.in-Some.is) refl

pub returns-in-None : goal.returns-in-None
returns-in-None c = rw (unknown_word c.args.keys.now c.args.table.now.entries, ← c.other_word.ensures, c.in-None.is) refl
