use Rattle.std.proofs.Common.{sym, ◌∙◌}
use Rattle.cl_analyse.proofs.ExactAnswers.{found_lengths}
use Rattle.cl_report.proofs.ReportLines.{exact_within, exact_answer_found}
use Rattle.cl_report.proofs.exact_lines.put_exact.Goals as goal

pub put_witnesses-requires-clause-lengths : goal.put_witnesses-requires-clause-lengths
put_witnesses-requires-clause-lengths c =
    let within = exact_within c.args.model.now c.args.findings.now c.args.chain c.requires.found c.requires.within in
    let found = exact_answer_found c.args.findings.now c.args.chain c.index-as_slice-chain.result within (rw c.as_slice.ensures at c.index-as_slice-chain.is) in
    found_lengths c.args.model.now c.args.chain c.in-Exact.lengths c.args.findings.now.exacts c.requires.found.exacts c.requires.within (sym found ∙ c.in-Exact.is)
