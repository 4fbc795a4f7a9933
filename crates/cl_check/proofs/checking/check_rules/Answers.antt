use Rattle.std.proofs.Common.{◌≡◌, [], length, ap, sym, ◌∙◌}
use Rattle.std.proofs.lemmas.Result.{err_from_is_err_and}
use Rattle.cl_runs.specs.{declared.job.JobTable.JobTable, SystemOf.system_of}
use Rattle.cl_runs.proofs.ModelSystem.{count_is}
use Rattle.cl_check.specs.Legality.{table_faults}
use Rattle.cl_check.proofs.{LawfulFaults.faultless_lawful, BrokenRules.{checked_legal, broken_table, broken_schedule}}
use Rattle.cl_check.proofs.checking.check_rules.Goals as goal

pub check_table-requires : goal.check_table-requires
check_table-requires c = ap (λ (t : JobTable). length t.jobs) c.table.ensures ∙ c.requires.tasks ∙ count_is c.args.model.now

pub returns-in_err-check_table-clause-rules : goal.returns-in_err-check_table-clause-rules
returns-in_err-check_table-clause-rules c =
    let p = err_from_is_err_and c.from_residual.result c.from_residual.ensures.1 in
    rw (p.1, p.2) (broken_table (system_of c.args.model.now) c.args.run.now c.table.result.now c.in_err-check_table.field-0.0 c.table.ensures
    c.in_err-check_table.ensures.finds)

pub check_cores-requires-clause-lawful : goal.check_cores-requires-clause-lawful
check_cores-requires-clause-lawful c = faultless_lawful (system_of c.args.model.now) c.args.run.now.table c.requires.tasks
    (sym (ap (table_faults (system_of c.args.model.now)) c.table.ensures) ∙ c.in_ok-check_table.ensures.finds)

pub returns-in_err-check_cores-clause-rules : goal.returns-in_err-check_cores-clause-rules
returns-in_err-check_cores-clause-rules c =
    let none : table_faults (system_of c.args.model.now) c.args.run.now.table ≡ []
    = sym (ap (table_faults (system_of c.args.model.now)) c.table.ensures) ∙ c.in_ok-check_table.ensures.finds in
    let p = err_from_is_err_and c.from_residual-in_err-check_cores.result c.from_residual-in_err-check_cores.ensures.1 in
    rw (p.1, p.2) (broken_schedule (system_of c.args.model.now) c.args.run.now c.in_err-check_cores.field-0.0 none c.in_err-check_cores.ensures)

pub returns-clause-rules : goal.returns-clause-rules
returns-clause-rules c = checked_legal (system_of c.args.model.now) c.args.run.now c.requires
    (sym (ap (table_faults (system_of c.args.model.now)) c.table.ensures) ∙ c.in_ok-check_table.ensures.finds)
    c.in_ok-check_cores.ensures
