use Rattle.std.proofs.Common.{◌≡◌, map}
use Rattle.std.specs.List.{range_with_len}
use Rattle.cl_phase.specs.Walks.{onward}
use Rattle.cl_phase.proofs.walked.taken.Given as goal

abbrev pub invariant-loop-hops : goal.invariant-loop-hops
invariant-loop-hops l = l.arrivals ≡ map (onward l.stops l.place l.start) (range_with_len 0 l.hops)
