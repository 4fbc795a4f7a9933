use Rattle.cl_model.proofs.NamesApart.{runnables_pass}
use Rattle.cl_model.proofs.groups.step_table.Goals as goal

pub names_of_runnables-requires : goal.names_of_runnables-requires
names_of_runnables-requires c = rw c.as_slice-tasks.ensures (runnables_pass c.args.model.now c.requires)
