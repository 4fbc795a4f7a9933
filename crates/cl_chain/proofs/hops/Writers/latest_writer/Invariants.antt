use Rattle.std.proofs.Common.{◌≡◌}
use Rattle.cl_chain.specs.Inner.Hops.{ArePassed}
use Rattle.cl_chain.proofs.hops.Writers.latest_writer.Given as goal

abbrev pub invariant-loop-job : goal.invariant-loop-job
invariant-loop-job l = (l.self.passed ≡ l.job) × ArePassed l.writes l.self l.read
