use Rattle.std.proofs.Common.{◌≡◌, [], replicate}
use Rattle.cl_valid.proofs.shares.SharesByCore.new.Given as goal

-- the cores so far have no tasks
abbrev pub invariant-loop : goal.invariant-loop
invariant-loop l = l.cores.items ≡ replicate l.counter []
