use Rattle.std.proofs.Common.{◌≡◌, drop}
use Rattle.cl_model.specs.{Refusals.{each, each_from}, ValidTasks.writer_check}
use Rattle.cl_valid.proofs.runnables.check_unwritten.Given as goal

-- what is refused in all is what is refused in the rest
abbrev pub invariant-loop-k : goal.invariant-loop-k
invariant-loop-k l = each (writer_check l.place l.written) l.labels ≡ each_from l.k (writer_check l.place l.written) (drop l.k l.labels)
