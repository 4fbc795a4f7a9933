-- The numbers of tasks where one of them is taken out.
use Rattle.std.specs.Prelude.{ℕ, ◌-◌, nat_lt, if◌then◌else◌}
use Rattle.cl_model.specs.declared.group.{Group.Group, Step.Step}

-- the number of a task without task t: those behind it move up
abbrev pub number_without : (t : ℕ) → (i : ℕ) → ℕ
number_without t i = if nat_lt t i then i - 1 else i

-- a step, a group of such a task
abbrev pub step_without : (t : ℕ) → Step → Step
step_without t step = record step { task = number_without t step.task }

abbrev pub group_without : (t : ℕ) → Group → Group
group_without t group = record group { task = number_without t group.task }
