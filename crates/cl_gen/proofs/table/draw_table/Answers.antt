use Rattle.std.proofs.Common.{sym, subst}
use Rattle.cl_runs.specs.{declared.job.JobTable.JobTable, SystemOf.system_of, Table.IsLawful}
use Rattle.cl_gen.proofs.LawfulTables.{table_lawful}
use Rattle.cl_gen.proofs.table.draw_table.Goals as goal

pub returns-clause-lawful : goal.returns-clause-lawful
returns-clause-lawful c =
    subst (λ (table : JobTable). IsLawful (system_of c.args.model.now) table) (sym c.in_ok-drawn_table.ensures)
    (table_lawful c.args.model.now c.execution_count-count.ensures.valid c.args.ticks c.args.seed)
