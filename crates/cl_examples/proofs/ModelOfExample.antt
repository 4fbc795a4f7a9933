-- The systems of the examples' models, and the groups of a chain.
use Rattle.std.proofs.Common.{◌≡◌, refl}
use Rattle.cl_model.specs.Groups.{groups_of}
use Rattle.cl_runs.specs.SystemOf.{system_of}
use Rattle.cl_examples.specs.{Examples.{two_tasks, from_a_to_b}, WholeExample.one_core, WholeModel.one_core_model, ExampleModel.{chain_ab, two_tasks_model}}

pub model_system : system_of two_tasks_model ≡ two_tasks
unfolding system_of two_tasks two_tasks_model
model_system = refl

pub model_groups : groups_of two_tasks_model chain_ab ≡ from_a_to_b
unfolding groups_of two_tasks_model
model_groups = refl

pub one_core_system : system_of one_core_model ≡ one_core
unfolding system_of one_core one_core_model
one_core_system = refl
