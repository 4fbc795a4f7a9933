use Rattle.std.proofs.Common.{ℕ, ◌<◌, List, ◌++◌, length, sym, ap, subst, ◌∙◌, arith}
use Rattle.std.proofs.lemmas.List.{append_assoc}
use Rattle.cl_analyse.specs.{declared.findings.ChainAnswer.ChainAnswer, ChainAnswers.{chain_answer_at, exact_answer_at}}
use Rattle.cl_report.specs.Report.{chain_line, exact_lines, chain_lines}
use Rattle.cl_report.proofs.ReportLines.{chain_within, chain_answer_found, late_within}
use Rattle.cl_text.specs.Beginnings.{PutsPart}
use Rattle.cl_text.proofs.{Beginnings.{puts_first, puts_second, puts_lines, on_error}, MoreLines.line_more}
use Rattle.cl_report.proofs.lines.put_chains.Goals as goal

pub put_chain-requires-clause-known : goal.put_chain-requires-clause-known
put_chain-requires-clause-known c =
    let i = c.loop-chain.chain in
    let within : i < length c.args.model.now.chains = omega (arith, c.loop-chain-test.true, c.loop-chain.auto.chain-end, c.chains-chain-end.ensures.count) in
    let found = chain_answer_found c.args.findings.now i c.index-as_slice-chain.result (chain_within c.args.model.now c.args.findings.now i c.requires within) (rw c.as_slice.ensures at c.index-as_slice-chain.is) in
    λ late named. late_within c.args.model.now c.args.findings.now i c.chains-chain-end.ensures.valid c.requires within late (sym found ∙ named)

pub loop-chain-preserved : goal.loop-chain-preserved
loop-chain-preserved c =
    let i = c.loop-chain.chain in
    let within : i < length c.args.model.now.chains = omega (arith, c.loop-chain-test.true, c.loop-chain.auto.chain-end, c.chains-chain-end.ensures.count) in
    let found = chain_answer_found c.args.findings.now i c.index-as_slice-chain.result (chain_within c.args.model.now c.args.findings.now i c.requires within) (rw c.as_slice.ensures at c.index-as_slice-chain.is) in
    let own = exact_lines c.args.model.now i (exact_answer_at c.args.findings.now.exacts i) in
    line_more (chain_lines c.args.model.now c.args.findings.now) c.args.text.now c.loop-chain.text c.put_exact.new.text i c.loop-chain.invariant
    (c.in_ok-put_exact.ensures.ok ∙ ap (λ (t : List ℕ). t ++ own) c.in_ok-put_chain.ensures.ok
    ∙ ap (λ (answer : ChainAnswer). (c.loop-chain.text ++ chain_line c.args.model.now answer i) ++ own) found
    ∙ append_assoc c.loop-chain.text (chain_line c.args.model.now (chain_answer_at c.args.findings.now.chains i) i) own)

pub returns-in_err-put_chain-clause-err : goal.returns-in_err-put_chain-clause-err
returns-in_err-put_chain-clause-err c =
    let i = c.loop-chain.chain in
    let within : i < length c.args.model.now.chains = omega (arith, c.loop-chain-test.true, c.loop-chain.auto.chain-end, c.chains-chain-end.ensures.count) in
    let found = chain_answer_found c.args.findings.now i c.index-as_slice-chain.result (chain_within c.args.model.now c.args.findings.now i c.requires within) (rw c.as_slice.ensures at c.index-as_slice-chain.is) in
    let first = chain_line c.args.model.now (chain_answer_at c.args.findings.now.chains i) i in
    let own = exact_lines c.args.model.now i (exact_answer_at c.args.findings.now.exacts i) in
    on_error c.from_residual.result _
    (puts_lines (chain_lines c.args.model.now c.args.findings.now) c.args.text.now c.loop-chain.text c.put_chain.new.text i
    (length c.args.model.now.chains) within c.loop-chain.invariant
    (puts_first c.loop-chain.text c.put_chain.new.text first own
    (subst (λ (answer : ChainAnswer). PutsPart c.loop-chain.text c.put_chain.new.text (chain_line c.args.model.now answer i)) found c.in_err-put_chain.ensures.err)))

pub returns-in_err-put_exact-clause-err : goal.returns-in_err-put_exact-clause-err
returns-in_err-put_exact-clause-err c =
    let i = c.loop-chain.chain in
    let within : i < length c.args.model.now.chains = omega (arith, c.loop-chain-test.true, c.loop-chain.auto.chain-end, c.chains-chain-end.ensures.count) in
    let found = chain_answer_found c.args.findings.now i c.index-as_slice-chain.result (chain_within c.args.model.now c.args.findings.now i c.requires within) (rw c.as_slice.ensures at c.index-as_slice-chain.is) in
    let first = chain_line c.args.model.now (chain_answer_at c.args.findings.now.chains i) i in
    let own = exact_lines c.args.model.now i (exact_answer_at c.args.findings.now.exacts i) in
    on_error c.from_residual-in_err-put_exact.result _
    (puts_lines (chain_lines c.args.model.now c.args.findings.now) c.args.text.now c.loop-chain.text c.put_exact.new.text i
    (length c.args.model.now.chains) within c.loop-chain.invariant
    (puts_second c.loop-chain.text c.put_chain.new.text c.put_exact.new.text first own
    (c.in_ok-put_chain.ensures.ok ∙ ap (λ (answer : ChainAnswer). c.loop-chain.text ++ chain_line c.args.model.now answer i) found)
    c.in_err-put_exact.ensures.err))
