use Rattle.std.proofs.Common.{sym, ap, ◌∙◌}
use Rattle.std.specs.Prelude.{codes}
use Rattle.cl_edit.specs.Inner.LineReads.{fields_in}
use Rattle.cl_edit.proofs.{FieldFacts.of_word, KeywordFacts.other_keyword}
use Rattle.cl_edit.proofs.lines.fields.Goals as goal

pub returns-then-is_word : goal.returns-then-is_word
unfolding fields_in
returns-then-is_word c = rw (of_word c.args.keyword.now (codes "range") (sym c.is_word.ensures ∙ c.if-is_word.true)) c.range.ensures

pub returns-then-is_word-2 : goal.returns-then-is_word-2
unfolding fields_in
returns-then-is_word-2 c = rw (of_word c.args.keyword.now (codes "whole") (sym c.is_word-else-is_word.ensures ∙ c.if-is_word-2.true)) c.whole.ensures

pub returns-then-is_word-3 : goal.returns-then-is_word-3
unfolding fields_in
returns-then-is_word-3 c = rw (of_word c.args.keyword.now (codes "period") (sym c.is_word-else-is_word-2.ensures ∙ c.if-is_word-3.true)) c.period.ensures

pub returns-then-is_word-4 : goal.returns-then-is_word-4
unfolding fields_in
returns-then-is_word-4 c = rw (of_word c.args.keyword.now (codes "offset") (sym c.is_word-else-is_word-3.ensures ∙ c.if-is_word-4.true)) c.offset.ensures

pub returns-then-is_word-5 : goal.returns-then-is_word-5
unfolding fields_in
returns-then-is_word-5 c = rw (of_word c.args.keyword.now (codes "jitter") (sym c.is_word-else-is_word-4.ensures ∙ c.if-is_word-5.true)) c.jitter.ensures

pub returns-then-is_word-6 : goal.returns-then-is_word-6
unfolding fields_in
returns-then-is_word-6 c = rw (of_word c.args.keyword.now (codes "distances") (sym c.is_word-else-is_word-5.ensures ∙ c.if-is_word-6.true)) c.distances.ensures

pub returns-then-is_word-7 : goal.returns-then-is_word-7
unfolding fields_in
returns-then-is_word-7 c = rw (of_word c.args.keyword.now (codes "burst") (sym c.is_word-else-is_word-6.ensures ∙ c.if-is_word-7.true)) c.burst.ensures

pub returns-then-is_word-8 : goal.returns-then-is_word-8
unfolding fields_in
returns-then-is_word-8 c = rw (of_word c.args.keyword.now (codes "deadline") (sym c.is_word-else-is_word-7.ensures ∙ c.if-is_word-8.true)) c.deadline_line.ensures

pub returns-then-is_word-9 : goal.returns-then-is_word-9
unfolding fields_in
returns-then-is_word-9 c = rw (of_word c.args.keyword.now (codes "swap") (sym c.is_word-else-is_word-8.ensures ∙ c.if-is_word-9.true)) c.swap.ensures

pub returns-then-is_word-10 : goal.returns-then-is_word-10
unfolding fields_in
returns-then-is_word-10 c = rw (of_word c.args.keyword.now (codes "move") (sym c.is_word-else-is_word-9.ensures ∙ c.if-is_word-10.true)) c.move_line.ensures

pub returns-then-is_word-11 : goal.returns-then-is_word-11
unfolding fields_in
returns-then-is_word-11 c = rw (of_word c.args.keyword.now (codes "access") (sym c.is_word-else-is_word-10.ensures ∙ c.if-is_word-11.true)) c.access_line.ensures

pub returns-then-is_word-12 : goal.returns-then-is_word-12
unfolding fields_in
returns-then-is_word-12 c = rw (of_word c.args.keyword.now (codes "task") (sym c.is_word-else-is_word-11.ensures ∙ c.if-is_word-12.true)) c.task.ensures

pub returns-then-is_word-13 : goal.returns-then-is_word-13
unfolding fields_in
returns-then-is_word-13 c = rw (of_word c.args.keyword.now (codes "drop-task") (sym c.is_word-else-is_word-12.ensures ∙ c.if-is_word-13.true)) c.drop_task.ensures

pub returns-then-is_word-14 : goal.returns-then-is_word-14
unfolding fields_in
returns-then-is_word-14 c = rw (of_word c.args.keyword.now (codes "chain") (sym c.is_word-else-is_word-13.ensures ∙ c.if-is_word-14.true)) c.chain.ensures

pub returns-then-is_word-15 : goal.returns-then-is_word-15
unfolding fields_in
returns-then-is_word-15 c = rw (of_word c.args.keyword.now (codes "drop-chain") (sym c.is_word-else-is_word-14.ensures ∙ c.if-is_word-15.true)) c.drop_chain.ensures

pub returns-then-is_word-16 : goal.returns-then-is_word-16
unfolding fields_in
returns-then-is_word-16 c = ap (λ keyword. fields_in keyword c.args.words.now) (of_word c.args.keyword.now (codes "report") (sym c.is_word-else-is_word-15.ensures ∙ c.if-is_word-16.true))

pub returns-else-is_word-16 : goal.returns-else-is_word-16
returns-else-is_word-16 c = other_keyword c.args.keyword.now c.args.words.now
    (sym c.is_word.ensures ∙ c.if-is_word.false)
    (sym c.is_word-else-is_word.ensures ∙ c.if-is_word-2.false)
    (sym c.is_word-else-is_word-2.ensures ∙ c.if-is_word-3.false)
    (sym c.is_word-else-is_word-3.ensures ∙ c.if-is_word-4.false)
    (sym c.is_word-else-is_word-4.ensures ∙ c.if-is_word-5.false)
    (sym c.is_word-else-is_word-5.ensures ∙ c.if-is_word-6.false)
    (sym c.is_word-else-is_word-6.ensures ∙ c.if-is_word-7.false)
    (sym c.is_word-else-is_word-7.ensures ∙ c.if-is_word-8.false)
    (sym c.is_word-else-is_word-8.ensures ∙ c.if-is_word-9.false)
    (sym c.is_word-else-is_word-9.ensures ∙ c.if-is_word-10.false)
    (sym c.is_word-else-is_word-10.ensures ∙ c.if-is_word-11.false)
    (sym c.is_word-else-is_word-11.ensures ∙ c.if-is_word-12.false)
    (sym c.is_word-else-is_word-12.ensures ∙ c.if-is_word-13.false)
    (sym c.is_word-else-is_word-13.ensures ∙ c.if-is_word-14.false)
    (sym c.is_word-else-is_word-14.ensures ∙ c.if-is_word-15.false)
    (sym c.is_word-else-is_word-15.ensures ∙ c.if-is_word-16.false)
