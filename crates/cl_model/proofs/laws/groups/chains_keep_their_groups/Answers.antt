use Rattle.cl_model.proofs.{AddedTasks.groups_kept, DroppedTasks.{groups_moved, groups_of_others_at}}
use Rattle.cl_model.proofs.laws.groups.chains_keep_their_groups.Goals as goal

pub returns-clause-added : goal.returns-clause-added
returns-clause-added c model task valid still_valid = groups_kept model task still_valid valid

pub returns-clause-dropped : goal.returns-clause-dropped
returns-clause-dropped c model task valid within still_valid = groups_moved model valid task within still_valid

pub returns-clause-of_others : goal.returns-clause-of_others
returns-clause-of_others c model task valid within still_valid = groups_of_others_at model valid task within still_valid
