use Rattle.std.proofs.Common.{sym, ◌∙◌}
use Rattle.cl_place.proofs.SomePlace.{front_by_mark, long_by_mark}
use Rattle.cl_place.proofs.mark.mark_length.Goals as goal

pub returns-then-has_mark-clause-front : goal.returns-then-has_mark-clause-front
returns-then-has_mark-clause-front c = front_by_mark c.args.text.now _ (sym c.has_mark.ensures ∙ c.if-has_mark.true)

pub returns-then-has_mark-clause-within : goal.returns-then-has_mark-clause-within
returns-then-has_mark-clause-within c = long_by_mark c.args.text.now (sym c.has_mark.ensures ∙ c.if-has_mark.true)

pub returns-else-has_mark-clause-front : goal.returns-else-has_mark-clause-front
returns-else-has_mark-clause-front c = front_by_mark c.args.text.now _ (sym c.has_mark.ensures ∙ c.if-has_mark.false)
