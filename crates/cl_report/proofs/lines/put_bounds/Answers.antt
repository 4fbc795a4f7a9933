use Rattle.std.proofs.Common.{rules}
use Rattle.std.proofs.lemmas.List.{append_assoc}
use Rattle.std.proofs.lemmas.Result.{IfOk-equal}
use Rattle.cl_report.specs.Report.{bounds_words}
use Rattle.cl_report.proofs.lines.put_bounds.Goals as goal

pub returns-clause-ok : goal.returns-clause-ok
unfolding bounds_words
returns-clause-ok c = search (rules, IfOk-equal, append_assoc)

pub returns-in_err-put_number-clause-err : goal.returns-in_err-put_number-clause-err
unfolding bounds_words
returns-in_err-put_number-clause-err c = search (rules, append_assoc)

pub returns-in_err-put-2-clause-err : goal.returns-in_err-put-2-clause-err
unfolding bounds_words
returns-in_err-put-2-clause-err c = search (rules, append_assoc)

pub returns-in_err-put_number-2-clause-err : goal.returns-in_err-put_number-2-clause-err
unfolding bounds_words
returns-in_err-put_number-2-clause-err c = search (rules, append_assoc)

pub returns-in_err-put-3-clause-err : goal.returns-in_err-put-3-clause-err
unfolding bounds_words
returns-in_err-put-3-clause-err c = search (rules, append_assoc)

pub returns-clause-err : goal.returns-clause-err
unfolding bounds_words
returns-clause-err c = search (rules, append_assoc)
