use Rattle.cl_gen.proofs.LawfulTables.{table_lawful, table_ticks}
use Rattle.cl_gen.proofs.laws.drawn_tables_are_lawful.Goals as goal

pub returns : goal.returns
returns c = record { lawful = table_lawful; ticks = table_ticks }
