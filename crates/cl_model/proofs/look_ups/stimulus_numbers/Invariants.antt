use Rattle.std.proofs.Common.{◌≡◌, map, take}
use Rattle.cl_model.specs.ByNumber.{stimulus_number}
use Rattle.cl_model.proofs.look_ups.stimulus_numbers.Given as goal

-- the numbers of the stimuli of the tasks so far
abbrev pub invariant-loop-task : goal.invariant-loop-task
invariant-loop-task l = l.numbers.items ≡ map (λ task. stimulus_number l.model task.stimulus) (take l.task-index l.task-items)
