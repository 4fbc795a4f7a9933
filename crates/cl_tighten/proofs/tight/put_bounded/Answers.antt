use Rattle.std.proofs.Common.{ℕ, ◌<◌, ◌++◌, length, sym, ap, ◌∙◌, arith}
use Rattle.cl_text.proofs.MoreLines.{line_more}
use Rattle.cl_analyse.specs.{declared.findings.ChainAnswer.ChainAnswer, ChainAnswers.chain_answer_at}
use Rattle.cl_tight.proofs.TightLengths.{tight_chains_within, tight_late_known}
use Rattle.cl_report.proofs.ReportLines.{chain_answer_in}
use Rattle.cl_tighten.specs.Tight.{tight_chain_line}
use Rattle.cl_tighten.proofs.tight.put_bounded.Goals as goal

pub put_tight_chain-requires-clause-known : goal.put_tight_chain-requires-clause-known
put_tight_chain-requires-clause-known c =
    let i = c.loop-chain.chain in
    let within : i < length c.args.model.now.chains = omega (arith, c.loop-chain-test.true, c.loop-chain.auto.chain-end, c.chains-chain-end.ensures.count) in
    let found = chain_answer_in c.args.chains.now i c.index-as_slice-chain.result (tight_chains_within c.args.model.now c.args.chains.now i c.requires within) (rw c.as_slice.ensures at c.index-as_slice-chain.is) in
    λ late named. tight_late_known c.args.model.now c.args.chains.now c.chains-chain-end.ensures.valid c.requires i late within (sym found ∙ named)

pub loop-chain-preserved : goal.loop-chain-preserved
loop-chain-preserved c =
    let i = c.loop-chain.chain in
    let within : i < length c.args.model.now.chains = omega (arith, c.loop-chain-test.true, c.loop-chain.auto.chain-end, c.chains-chain-end.ensures.count) in
    let found = chain_answer_in c.args.chains.now i c.index-as_slice-chain.result (tight_chains_within c.args.model.now c.args.chains.now i c.requires within) (rw c.as_slice.ensures at c.index-as_slice-chain.is) in
    line_more (λ (chain : ℕ). tight_chain_line c.args.model.now (chain_answer_at c.args.chains.now chain) chain) c.args.text.now c.loop-chain.text c.put_tight_chain.new.text i c.loop-chain.invariant
    (c.in_ok-put_tight_chain.ensures ∙ ap (λ (answer : ChainAnswer). c.loop-chain.text ++ tight_chain_line c.args.model.now answer i) found)
