use Rattle.std.proofs.Common.{◌≡◌, ◌*◌, ◌^◌, ◌≤◌, take}
use Rattle.std.specs.List.{sum_by}
use Rattle.cl_explain.proofs.LoadsByNumber.{load_by_number}
use Rattle.cl_explain.proofs.loads.load_of_core.Given as goal

abbrev pub invariant-loop-task : goal.invariant-loop-task
invariant-loop-task l = record { load : l.load ≡ sum_by (load_by_number l.model l.up) (take l.task-index l.task-items); small : l.load ≤ l.task-index * 2 ^ 101 }
