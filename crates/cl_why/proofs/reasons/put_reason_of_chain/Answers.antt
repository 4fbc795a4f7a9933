use Rattle.std.proofs.Common.{sym, ap, ◌∙◌}
use Rattle.std.proofs.lemmas.Result.{on_ok_weaker}
use Rattle.cl_hop.specs.Bounds.{Lengths}
use Rattle.cl_analyse.specs.Verdicts.{limited_bound}
use Rattle.cl_tight.proofs.TightLengths.{tight_chains_within}
use Rattle.cl_verify.proofs.ByFindings.{chains_of_findings}
use Rattle.cl_why.proofs.ReasonTexts.{tight_answer_found, bounds_found, late_found, reason_by_bounds, reason_by_late}
use Rattle.cl_why.proofs.reasons.put_reason_of_chain.Goals as goal

pub bounds-as_slice-chain : goal.bounds-as_slice-chain
bounds-as_slice-chain c =
    tight_chains_within c.args.model.now c.as_slice.result.now c.args.chain
    (c.as_slice.ensures ∙ chains_of_findings c.args.model.now c.args.findings.now c.requires.findings) c.requires.chain

pub put_chain-requires-clause-known : goal.put_chain-requires-clause-known
put_chain-requires-clause-known c = λ late named.
    late_found c.args.model.now c.args.findings.now c.as_slice.result.now c.args.chain c.index-as_slice-chain.result late c.plain.ensures.valid
    c.requires.findings c.as_slice.ensures c.requires.chain c.index-as_slice-chain.is named

pub put_reason_of_task-requires-clause-task : goal.put_reason_of_task-requires-clause-task
put_reason_of_task-requires-clause-task c =
    late_found c.args.model.now c.args.findings.now c.as_slice.result.now c.args.chain c.index-as_slice-chain.result c.in-Late.task c.plain.ensures.valid
    c.requires.findings c.as_slice.ensures c.requires.chain c.index-as_slice-chain.is c.in-Late.is

pub put_reason_of_bound-requires-clause-not_late : goal.put_reason_of_bound-requires-clause-not_late
put_reason_of_bound-requires-clause-not_late c =
    (bounds_found c.args.model.now c.args.findings.now c.as_slice.result.now c.args.chain c.index-as_slice-chain.result c.in-Bounds.bounds c.plain.ensures.valid
    c.requires.findings c.as_slice.ensures c.requires.chain c.index-as_slice-chain.is c.in-Bounds.is).0

pub put_reason_of_bound-requires-clause-bound : goal.put_reason_of_bound-requires-clause-bound
put_reason_of_bound-requires-clause-bound c =
    let given = bounds_found c.args.model.now c.args.findings.now c.as_slice.result.now c.args.chain c.index-as_slice-chain.result c.in-Bounds.bounds c.plain.ensures.valid
    c.requires.findings c.as_slice.ensures c.requires.chain c.index-as_slice-chain.is c.in-Bounds.is in
    c.limited_bound-bound.ensures ∙ sym (ap (λ (b : Lengths). limited_bound c.args.kind b) given.1)

pub returns-in_ok-put_chain-in-Late-clause-text : goal.returns-in_ok-put_chain-in-Late-clause-text
returns-in_ok-put_chain-in-Late-clause-text c =
    let found = tight_answer_found c.args.model.now c.args.findings.now c.as_slice.result.now c.args.chain c.index-as_slice-chain.result
    c.requires.findings c.as_slice.ensures c.requires.chain c.index-as_slice-chain.is in
    on_ok_weaker c.put_reason_of_task.result (λ last.
    reason_by_late c.args.model.now c.args.chain c.args.kind c.in-Late.task c.index-as_slice-chain.result
    c.args.text.now c.put_chain.new.text c.put_reason_of_task.new.text found c.in-Late.is c.in_ok-put_chain-in-Late.ensures.ok last) c.put_reason_of_task.ensures.text

pub returns-in-Bounds-clause-text : goal.returns-in-Bounds-clause-text
returns-in-Bounds-clause-text c =
    let found = tight_answer_found c.args.model.now c.args.findings.now c.as_slice.result.now c.args.chain c.index-as_slice-chain.result
    c.requires.findings c.as_slice.ensures c.requires.chain c.index-as_slice-chain.is in
    on_ok_weaker c.put_reason_of_bound.result (λ last.
    reason_by_bounds c.args.model.now c.args.chain c.args.kind c.in-Bounds.bounds c.limited_bound-bound.result c.index-as_slice-chain.result
    c.args.text.now c.put_reason_of_bound.new.text found c.in-Bounds.is c.limited_bound-bound.ensures last) c.put_reason_of_bound.ensures.text
