use Rattle.std.proofs.Common.{[]}
use Rattle.cl_model.specs.{declared.refusal.Code.TheVariants.M39, Place.at_spot}
use Rattle.cl_valid.proofs.AddedNames.{AreAdded}
use Rattle.cl_valid.proofs.runnables.distinct_many.Given as goal

-- the labels so far are apart, and they are kept
abbrev pub invariant-loop-k : goal.invariant-loop-k
invariant-loop-k l = AreAdded M39 (λ k. at_spot k l.place) [] l.labels l.k l.set
