use Rattle.std.proofs.Common.{List, get_or, sym, ap, ◌∙◌}
use Rattle.cl_analyse.specs.declared.findings.{ChainAnswer.ChainAnswer, ExactAnswer.ExactAnswer}
use Rattle.cl_incr.proofs.KeptAnswers.{kept_chain}
use Rattle.cl_incr.proofs.chains.kept_findings.Goals as goal

pub returns : goal.returns
returns c =
    let bounds = c.index-as_slice-before.is ∙ ap (λ (list : List ChainAnswer). get_or list c.in_ok-before.before c.index-as_slice-before.result) c.as_slice.ensures in
    let exact = c.index-as_slice-before-2.is ∙ ap (λ (list : List ExactAnswer). get_or list c.in_ok-before.before c.index-as_slice-before-2.result) c.as_slice-2.ensures in
    kept_chain c.args.old.now c.args.new.now c.args.chain c.args.findings.now c.in_ok-before.before (record { bounds = c.index-as_slice-before.result; exact = c.copy.result })
    c.chains.ensures.valid c.requires.findings c.in_ok-before.ensures.within bounds
    (c.copy.ensures ∙ exact ∙ ap (get_or c.args.findings.now.exacts c.in_ok-before.before) (sym c.copy.ensures))
    (c.ask_the_same.ensures.0 c.if-not-ask_the_same.false)
