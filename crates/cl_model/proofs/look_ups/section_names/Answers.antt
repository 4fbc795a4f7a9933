use Rattle.cl_model.proofs.NamesApart.{cores_apart, stimuli_apart, tasks_apart, chains_apart, requirements_apart}
use Rattle.cl_model.proofs.look_ups.section_names.Goals as goal

pub name_numbers-requires : goal.name_numbers-requires
name_numbers-requires c = rw c.as_slice.ensures (cores_apart c.args.model.now c.requires)

pub name_numbers-requires-2 : goal.name_numbers-requires-2
name_numbers-requires-2 c = rw c.as_slice-2.ensures (stimuli_apart c.args.model.now c.requires)

pub name_numbers-requires-3 : goal.name_numbers-requires-3
name_numbers-requires-3 c = rw c.as_slice-3.ensures (tasks_apart c.args.model.now c.requires)

pub name_numbers-requires-4 : goal.name_numbers-requires-4
name_numbers-requires-4 c = rw c.as_slice-4.ensures (chains_apart c.args.model.now c.requires)

pub name_numbers-requires-5 : goal.name_numbers-requires-5
name_numbers-requires-5 c = rw c.as_slice-5.ensures (requirements_apart c.args.model.now c.requires)
