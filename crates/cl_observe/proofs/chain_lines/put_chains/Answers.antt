use Rattle.std.proofs.Common.{◌≡◌, ◌<◌, length, subst, arith}
use Rattle.cl_analyse.specs.{declared.findings.ChainAnswer.ChainAnswer, ChainAnswers.chain_answer_at}
use Rattle.cl_report.proofs.ReportLines.{chain_answer_in}
use Rattle.cl_observe.specs.Observed.{GoesOnWith, IsMadeOf, IsChainText}
use Rattle.cl_observe.proofs.MadeTexts.{none_made, more_made}
use Rattle.cl_observe.proofs.chain_lines.put_chains.Goals as goal

pub loop-chain-init : goal.loop-chain-init
loop-chain-init c = none_made (λ chain. IsChainText c.args.model.now c.args.run.now (chain_answer_at c.args.answers.now chain) chain) c.args.text.now

pub loop-chain-preserved : goal.loop-chain-preserved
loop-chain-preserved c =
    let i = c.loop-chain.chain in
    let within : i < length c.args.answers.now = omega (arith, c.loop-chain-test.true, c.loop-chain.auto.chain-end, c.chains-chain-end.ensures.count, c.requires.answers) in
    let found = chain_answer_in c.args.answers.now i c.index-answers-chain.result within c.index-answers-chain.is in
    more_made (λ chain. IsChainText c.args.model.now c.args.run.now (chain_answer_at c.args.answers.now chain) chain) i c.args.text.now c.loop-chain.text
    c.put_chain.new.text c.loop-chain.invariant
    (subst (λ (answer : ChainAnswer). GoesOnWith (IsChainText c.args.model.now c.args.run.now answer i) c.loop-chain.text c.put_chain.new.text) found
    c.in_ok-put_chain.ensures)

pub returns : goal.returns
returns c =
    let all : c.loop-chain.chain ≡ length c.args.model.now.chains
    = omega (arith, c.loop-chain-test.false, c.loop-chain.auto.chain-end, c.chains-chain-end.ensures.count) in
    subst (λ n. GoesOnWith (IsMadeOf (λ chain. IsChainText c.args.model.now c.args.run.now (chain_answer_at c.args.answers.now chain) chain) n) c.args.text.now c.loop-chain.text)
    all c.loop-chain.invariant
