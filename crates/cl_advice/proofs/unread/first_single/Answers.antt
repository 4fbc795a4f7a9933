use Rattle.std.proofs.Common.{ap, ◌∙◌, rules, tests}
use Rattle.std.proofs.lemmas.Iterator.Consumers.{YieldsList-end}
use Rattle.std.proofs.lemmas.Iterator.Splits.{YieldsList-from_slice_split}
use Rattle.cl_advice.specs.Unread.{is_space, first_single}
use Rattle.cl_advice.proofs.SingleHeaders.{single_more}
use Rattle.cl_advice.proofs.unread.first_single.Goals as goal

pub loop-word-preserved : goal.loop-word-preserved
loop-word-preserved c = single_more c.loop-word.yielded c.in-Some.word c.loop-word.found c.single_part.result c.or-found.result c.loop-word.invariant c.single_part.ensures c.or-found.ensures

pub returns : goal.returns
returns c =
    let all = YieldsList-end
    (YieldsList-from_slice_split _ is_space c.args.bytes.now (cc) (cc) (cc) (λ x b q k. search (rules, tests)))
    c.loop-word.yielded _ c.loop-word.yielded_by _ _ c.in-None.is c.next.ensures.steps in
    c.loop-word.invariant ∙ ap first_single all.0
