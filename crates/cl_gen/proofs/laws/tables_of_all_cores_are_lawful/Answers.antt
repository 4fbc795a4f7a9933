use Rattle.cl_gen.proofs.WishedTables.{lawful_on_all}
use Rattle.cl_gen.proofs.laws.tables_of_all_cores_are_lawful.Goals as goal

pub returns : goal.returns
returns c = lawful_on_all
