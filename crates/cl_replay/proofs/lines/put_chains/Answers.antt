use Rattle.std.proofs.Common.{ℕ, List, ◌<◌, ◌++◌, length, map, ap, ◌∙◌, arith}
use Rattle.cl_chain.specs.JobChains.{measured_of}
use Rattle.cl_text.proofs.MoreLines.{line_more}
use Rattle.cl_report.proofs.ReportLines.{chain_within, chain_answer_found}
use Rattle.cl_replay.specs.Replay.{measured_chain_lines}
use Rattle.cl_replay.proofs.{ChainLines.{lines_at, margins_at}, MeasuredChains.measured_found}
use Rattle.cl_replay.proofs.lines.put_chains.Goals as goal

pub put_chain-requires-clause-margins : goal.put_chain-requires-clause-margins
put_chain-requires-clause-margins c =
    let i = c.loop-chain.chain in
    let within : i < length c.args.model.now.chains = omega (arith, c.loop-chain-test.true, c.loop-chain.auto.chain-end, c.chains-chain-end.ensures.count) in
    let answered = chain_answer_found c.args.findings.now i c.index-as_slice-chain.result (chain_within c.args.model.now c.args.findings.now i c.requires.found within) (rw c.as_slice.ensures at c.index-as_slice-chain.is) in
    let measured = measured_found c.args.measured.now i c.index-measured-chain.result (omega (arith, within, c.requires.one_a_chain)) c.index-measured-chain.is in
    margins_at c.args.model.now c.args.findings.now c.args.measured.now i c.index-as_slice-chain.result c.index-measured-chain.result answered measured c.requires.margins within

pub loop-chain-preserved : goal.loop-chain-preserved
loop-chain-preserved c =
    let i = c.loop-chain.chain in
    let within : i < length c.args.model.now.chains = omega (arith, c.loop-chain-test.true, c.loop-chain.auto.chain-end, c.chains-chain-end.ensures.count) in
    let answered = chain_answer_found c.args.findings.now i c.index-as_slice-chain.result (chain_within c.args.model.now c.args.findings.now i c.requires.found within) (rw c.as_slice.ensures at c.index-as_slice-chain.is) in
    let measured = measured_found c.args.measured.now i c.index-measured-chain.result (omega (arith, within, c.requires.one_a_chain)) c.index-measured-chain.is in
    line_more (measured_chain_lines c.args.model.now c.args.findings.now (map measured_of c.args.measured.now)) c.args.text.now c.loop-chain.text c.put_chain.new.text i c.loop-chain.invariant
    (c.in_ok-put_chain.ensures ∙ ap (λ (t : List ℕ). c.loop-chain.text ++ t)
    (lines_at c.args.model.now c.args.findings.now c.args.measured.now i c.index-as_slice-chain.result c.index-measured-chain.result answered measured))
