use Rattle.std.proofs.Common.{◌<◌, length, drop}
use Rattle.cl_chain.specs.Inner.{GroupTables.AreMomentsAt, ChainsOver.IsTail}
use Rattle.cl_chain.proofs.tails.tails.Given as goal

abbrev pub invariant-loop-place : goal.invariant-loop-place
invariant-loop-place l = (l.place < length l.groups) × AreMomentsAt (IsTail (drop l.place l.groups)) l.found

abbrev pub decreases-loop-place : goal.decreases-loop-place
decreases-loop-place l = l.place
