use Rattle.std.proofs.lemmas.Result.{err_from_is_err_and}
use Rattle.toml.specs.View.{table_view}
use Rattle.cl_read.proofs.Readings.{gives_fault, gives_model, gives_in_range, gives_named}
use Rattle.cl_read.proofs.document.read_model.Goals as goal

pub returns-in_err-table-clause-reads : goal.returns-in_err-table-clause-reads
returns-in_err-table-clause-reads c =
    let p = err_from_is_err_and c.from_residual.result c.from_residual.ensures.1 in
    rw (p.1, p.2) (gives_fault c.args.text.now c.in_err-table.field-0.0 c.in_err-table.ensures)

pub returns-clause-reads : goal.returns-clause-reads
returns-clause-reads c =
    gives_model c.args.text.now (table_view c.in_ok-table.table) c.model.result c.in_ok-table.ensures c.model.ensures

pub returns-clause-in_range : goal.returns-clause-in_range
returns-clause-in_range c = gives_in_range (table_view c.in_ok-table.table) c.model.result c.model.ensures

pub returns-clause-named : goal.returns-clause-named
returns-clause-named c = gives_named (table_view c.in_ok-table.table) c.model.result c.model.ensures
