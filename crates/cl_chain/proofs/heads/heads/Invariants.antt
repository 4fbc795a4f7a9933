use Rattle.std.proofs.Common.{◌-◌}
use Rattle.cl_chain.specs.Inner.{GroupTables.AreMomentsAt, ChainsOver.IsHead}
use Rattle.cl_chain.proofs.heads.heads.Given as goal

abbrev pub invariant-loop-place : goal.invariant-loop-place
invariant-loop-place l = AreMomentsAt (IsHead l.groups (l.place - 1)) l.found
