use Rattle.std.proofs.Common.{◌≡◌, [], drop}
use Rattle.cl_model.specs.{declared.refusal.Code.TheVariants.M39, Place.at_spot, Refusals.each_from, ValidNames.repeat_check, ValidTasks.twice_check}
use Rattle.cl_valid.proofs.runnables.check_few.Given as goal

-- what is refused in all is what is refused in the rest
abbrev pub invariant-loop-k : goal.invariant-loop-k
invariant-loop-k l = twice_check l.place l.labels ≡ each_from l.k (repeat_check M39 (λ n. at_spot n l.place) [] l.labels) (drop l.k l.labels)
