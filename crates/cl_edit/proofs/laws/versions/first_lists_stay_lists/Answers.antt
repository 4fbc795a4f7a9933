use Rattle.cl_edit.proofs.FirstLists.{same_list}
use Rattle.cl_edit.proofs.laws.versions.first_lists_stay_lists.Goals as goal

pub returns : goal.returns
returns c = same_list
