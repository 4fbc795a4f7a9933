use Rattle.std.proofs.Common.{ap, ◌∙◌, rules, tests}
use Rattle.std.specs.Prelude.{filter}
use Rattle.std.specs.List.{slice_split, join_with_byte}
use Rattle.std.proofs.lemmas.Iterator.Consumers.{YieldsList-end}
use Rattle.std.proofs.lemmas.Iterator.Splits.{YieldsList-from_slice_split}
use Rattle.cl_edit.specs.Said.{is_blank, has_bytes, plain}
use Rattle.cl_edit.proofs.PlainLines.{plain_more}
use Rattle.cl_edit.proofs.said.plain.Goals as goal

pub loop-word-preserved : goal.loop-word-preserved
loop-word-preserved c = c.in_ok-put_word.ensures ∙ plain_more c.loop-word.yielded c.in-Some.word c.loop-word.plain.items c.loop-word.invariant

pub returns : goal.returns
unfolding plain
returns c =
    let all = YieldsList-end
    (YieldsList-from_slice_split _ is_blank c.without_return.result.now (cc) (cc) (cc) (λ x b q k. search (rules, tests)))
    c.loop-word.yielded _ c.loop-word.yielded_by _ _ c.in-None.is c.next.ensures.steps in
    c.loop-word.invariant ∙ ap (λ words. join_with_byte 0x20 (filter has_bytes words)) (all.0 ∙ ap (slice_split is_blank) c.without_return.ensures)
