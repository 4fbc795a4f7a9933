use Rattle.std.proofs.Common.{◌≡◌, take}
use Rattle.cl_traces.proofs.copying.copy_lists.Given as goal

abbrev pub invariant-loop-jobs : goal.invariant-loop-jobs
invariant-loop-jobs l = l.copy ≡ take l.jobs-index l.jobs-items
