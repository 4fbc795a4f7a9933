use Rattle.std.proofs.Common.{◌∙◌}
use Rattle.cl_engine.proofs.Numbers.{not_two}
use Rattle.cl_engine.proofs.words.two_numbers.Goals as goal

pub returns-then-len-place : goal.returns-then-len-place
returns-then-len-place c = not_two c.args.one c.args.other c.args.place c.args.words.now (λ is. c.if-len-place.true (c.len.ensures ∙ is))
