use Rattle.std.proofs.Common.{◌≡◌, [], replicate}
use Rattle.cl_run_data.proofs.run_data.RunData.start.Given as goal

abbrev pub invariant-loop : goal.invariant-loop
invariant-loop l = l.lists.items ≡ replicate l.counter []
