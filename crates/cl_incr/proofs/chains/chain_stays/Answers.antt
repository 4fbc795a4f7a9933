use Rattle.std.proofs.Common.{◌<◌, List, length, get_or, ap, ◌∙◌, subst, arith}
use Rattle.cl_analyse.specs.declared.findings.ChainAnswer.{ChainAnswer}
use Rattle.cl_analyse.proofs.AnswerLists.{chain_answer_found}
use Rattle.cl_incr.specs.Inner.News.{HasBounds}
use Rattle.cl_incr.proofs.SameChains.{both_ask}
use Rattle.cl_incr.proofs.chains.chain_stays.Goals as goal

pub returns-then-has_bounds-clause-asked : goal.returns-then-has_bounds-clause-asked
returns-then-has_bounds-clause-asked c = λ stay.
    let old = c.args.old.now in
    let bounds = c.index-as_slice-was.result in
    let known : c.args.was < length old.chains = omega (arith, c.chains.ensures.count, c.if-was-chains.false) in
    let is = chain_answer_found old c.args.findings.now.chains c.args.was bounds c.requires.findings.chains known
    (c.index-as_slice-was.is ∙ ap (λ (l : List ChainAnswer). get_or l c.args.was bounds) c.as_slice.ensures) in
    both_ask old c.args.new.now c.chains.ensures.valid c.plain-new.ensures.valid c.args.was c.args.chain (c.groups_stay.ensures stay)
    (subst HasBounds is (c.has_bounds.ensures c.if-has_bounds.true))
