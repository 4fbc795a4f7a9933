use Rattle.toml.specs.View.{table_view}
use Rattle.cl_read.proofs.FoundValues.{value_found}
use Rattle.cl_read.proofs.keys.Fields.value_at.Goals as goal

pub returns-in-Some : goal.returns-in-Some
returns-in-Some c =
    value_found c.args.self.now.keys.now (table_view c.args.self.now.table.now) c.args.self.now.values c.in-Some.place c.args.key c.index-values-place.result c.requires c.in-Some.ensures c.index-values-place.is
