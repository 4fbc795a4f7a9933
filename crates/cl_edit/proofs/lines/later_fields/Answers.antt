use Rattle.std.proofs.Common.{sym, ap, ◌∙◌}
use Rattle.std.specs.Prelude.{codes}
use Rattle.cl_edit.specs.Inner.LineReads.{later_fields_in}
use Rattle.cl_edit.proofs.{FieldFacts.of_word, KeywordFacts.other_later_keyword}
use Rattle.cl_edit.proofs.lines.later_fields.Goals as goal

pub returns-then-is_word : goal.returns-then-is_word
unfolding later_fields_in
returns-then-is_word c = rw (of_word c.args.keyword.now (codes "priorities") (sym c.is_word.ensures ∙ c.if-is_word.true)) c.priorities.ensures

pub returns-then-is_word-2 : goal.returns-then-is_word-2
unfolding later_fields_in
returns-then-is_word-2 c = rw (of_word c.args.keyword.now (codes "requirement") (sym c.is_word-else-is_word.ensures ∙ c.if-is_word-2.true)) c.requirement.ensures

pub returns-then-is_word-3 : goal.returns-then-is_word-3
unfolding later_fields_in
returns-then-is_word-3 c = rw (of_word c.args.keyword.now (codes "drop-requirement") (sym c.is_word-else-is_word-2.ensures ∙ c.if-is_word-3.true)) c.drop_requirement.ensures

pub returns-then-is_word-4 : goal.returns-then-is_word-4
unfolding later_fields_in
returns-then-is_word-4 c = ap (λ keyword. later_fields_in keyword c.args.words.now) (of_word c.args.keyword.now (codes "tighten") (sym c.is_word-else-is_word-3.ensures ∙ c.if-is_word-4.true))

pub returns-then-is_word-5 : goal.returns-then-is_word-5
unfolding later_fields_in
returns-then-is_word-5 c = ap (λ keyword. later_fields_in keyword c.args.words.now) (of_word c.args.keyword.now (codes "verify") (sym c.is_word-else-is_word-4.ensures ∙ c.if-is_word-5.true))

pub returns-else-is_word-5 : goal.returns-else-is_word-5
returns-else-is_word-5 c = rw (other_later_keyword c.args.keyword.now c.args.words.now
    (sym c.is_word.ensures ∙ c.if-is_word.false)
    (sym c.is_word-else-is_word.ensures ∙ c.if-is_word-2.false)
    (sym c.is_word-else-is_word-2.ensures ∙ c.if-is_word-3.false)
    (sym c.is_word-else-is_word-3.ensures ∙ c.if-is_word-4.false)
    (sym c.is_word-else-is_word-4.ensures ∙ c.if-is_word-5.false)) c.fields.ensures
