use Rattle.std.proofs.Common.{◌≡◌, drop}
use Rattle.cl_model.specs.{Refusals.{each, each_from}, ValidTasks.label_check}
use Rattle.cl_valid.proofs.runnables.check_known.Given as goal

-- what is refused in all is what is refused in the rest
abbrev pub invariant-loop-k : goal.invariant-loop-k
invariant-loop-k l = each (label_check l.code l.place l.known) l.labels ≡ each_from l.k (label_check l.code l.place l.known) (drop l.k l.labels)
