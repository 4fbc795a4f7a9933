use Rattle.std.proofs.Common.{◌≡◌, drop}
use Rattle.cl_model.specs.Named.{all_runnables}
use Rattle.std.specs.List.{find}
use Rattle.cl_advice.specs.With.{is_sought, found_by}
use Rattle.cl_advice.proofs.with.found_by.Given as goal

-- the first that is sought in all tasks is that in the tasks that are left
abbrev pub invariant-loop-task : goal.invariant-loop-task
invariant-loop-task l =
    find (is_sought l.sought l.name) (all_runnables (drop l.task-index l.task-items)) ≡ found_by l.model l.sought l.name
