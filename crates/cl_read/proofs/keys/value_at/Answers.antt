use Rattle.std.proofs.Common.{sym}
use Rattle.toml.proofs.Views.{table_get}
use Rattle.cl_read.proofs.keys.value_at.Goals as goal

pub returns : goal.returns
returns c = rw (sym c.word.ensures) (table_get c.get.result c.word.result.now c.args.table.now.entries c.get.ensures.value)
