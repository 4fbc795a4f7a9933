use Rattle.std.proofs.Common.{map}
use Rattle.cl_chain.specs.JobChains.{measured_of}
use Rattle.cl_replay.proofs.MeasuredChains.{AreFirstMeasured}
use Rattle.cl_replay.proofs.measuring.measure_all.Given as goal

abbrev pub invariant-loop-chain : goal.invariant-loop-chain
invariant-loop-chain l = AreFirstMeasured l.model l.run l.chain (map measured_of l.measured)
