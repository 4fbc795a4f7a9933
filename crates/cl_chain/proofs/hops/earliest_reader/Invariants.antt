use Rattle.std.proofs.Common.{◌≡◌, ℕ, ◌<◌, Some}
use Rattle.cl_chain.specs.Inner.GroupTables.{moment_at}
use Rattle.cl_chain.proofs.hops.earliest_reader.Given as goal

abbrev pub invariant-loop-job : goal.invariant-loop-job
invariant-loop-job l = (k r : ℕ) → k < l.job → moment_at l.reads k ≡ Some r → r < l.write
