use Rattle.std.proofs.Common.{rules}
use Rattle.std.proofs.lemmas.List.{append_assoc}
use Rattle.std.proofs.lemmas.Result.{IfOk-equal}
use Rattle.cl_report.specs.Report.{past_line}
use Rattle.cl_report.proofs.exact_lines.put_past.Goals as goal

pub returns-clause-ok : goal.returns-clause-ok
unfolding past_line
returns-clause-ok c = search (rules, IfOk-equal, append_assoc)

pub returns-in_err-put_chain_name-clause-err : goal.returns-in_err-put_chain_name-clause-err
unfolding past_line
returns-in_err-put_chain_name-clause-err c = search (rules, append_assoc)

pub returns-in_err-put-2-clause-err : goal.returns-in_err-put-2-clause-err
unfolding past_line
returns-in_err-put-2-clause-err c = search (rules, append_assoc)

pub returns-in_err-put_number-clause-err : goal.returns-in_err-put_number-clause-err
unfolding past_line
returns-in_err-put_number-clause-err c = search (rules, append_assoc)

pub returns-clause-err : goal.returns-clause-err
unfolding past_line
returns-clause-err c = search (rules, append_assoc)
