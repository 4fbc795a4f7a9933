use Rattle.std.proofs.Common.{◌≡◌, ◌++◌, take}
use Rattle.cl_valid.proofs.runnables.add_written.Given as goal

-- the labels so far are added
abbrev pub invariant-loop-label : goal.invariant-loop-label
invariant-loop-label l = l.written ≡ l.fn.written ++ take l.label-index l.labels
