use Rattle.std.proofs.Common.{◌≡◌, ◌*◌, ◌≤◌, take}
use Rattle.cl_exact.specs.Inner.Walks.{start_up_of}
use Rattle.cl_exact.proofs.ForwardJobs.{HOP}
use Rattle.cl_exact.proofs.start_up.start_up.Given as goal

abbrev pub invariant-loop-beat : goal.invariant-loop-beat
invariant-loop-beat l = record {
  sum : l.start_up ≡ start_up_of (take l.beat-index l.beats);
  early : l.start_up ≤ l.beat-index * HOP;
}
