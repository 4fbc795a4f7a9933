use Rattle.std.proofs.Common.{◌≡◌, take}
use Rattle.cl_traces.proofs.copying.copy_times.Given as goal

abbrev pub invariant-loop-time : goal.invariant-loop-time
invariant-loop-time l = l.copy ≡ take l.time-index l.time-items
