use Rattle.std.proofs.Common.{ℕ, List, get_or, inl, refl, ap, ◌∙◌, subst}
use Rattle.cl_analyse.specs.{declared.findings.ChainAnswer.ChainAnswer, ChainAnswers.exact_answer_at}
use Rattle.cl_analyse.proofs.AnswerLists.{chain_answer_found}
use Rattle.cl_incr.specs.Inner.News.{IsExactOf}
use Rattle.cl_incr.proofs.ByQuestions.{chain_answers_same, exact_answers_same}
use Rattle.cl_incr.proofs.chains.keep_or_find.Goals as goal

pub returns-then-chain_stays-clause-bounds : goal.returns-then-chain_stays-clause-bounds
returns-then-chain_stays-clause-bounds g c =
    let old = c.args.old.now in
    let was = c.chain_before-was.result in
    let asked = c.chain_stays.ensures.asked c.if-chain_stays.true in
    chain_answer_found old c.args.findings.now.chains was c.index-as_slice-was.result c.requires.findings.chains (c.chain_stays.ensures.known c.if-chain_stays.true)
    (c.index-as_slice-was.is ∙ ap (λ (l : List ChainAnswer). get_or l was c.index-as_slice-was.result) c.as_slice.ensures)
    ∙ chain_answers_same old c.args.new.now was c.args.chain asked.question asked.old_asks asked.new_asks

pub returns-then-chain_stays-clause-noted : goal.returns-then-chain_stays-clause-noted
returns-then-chain_stays-clause-noted g c =
    let old = c.args.old.now in
    let new = c.args.new.now in
    let was = c.chain_before-was.result in
    let exacts = c.args.findings.now.exacts in
    let known = c.chain_stays.ensures.known c.if-chain_stays.true in
    let asked = c.chain_stays.ensures.asked c.if-chain_stays.true in
    inl (
      refl,
      subst (λ (n : ℕ). IsExactOf new c.args.chain (exact_answer_at exacts n)) c.chain_before-was.ensures
          (exact_answers_same old new c.plain-old.ensures.valid was c.args.chain known asked.question asked.old_asks asked.new_asks (exact_answer_at exacts was)
          (c.requires.findings.exacts.each was known)),
    )
