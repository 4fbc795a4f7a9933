use Rattle.cl_model.proofs.GroupsOfParts.{cut_after}
use Rattle.cl_model.proofs.laws.groups.cut_steps_have_parts_of_groups.Goals as goal

pub returns : goal.returns
returns c = cut_after
