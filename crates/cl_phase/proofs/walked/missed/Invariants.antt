use Rattle.std.proofs.Common.{◌≡◌, ◌-◌, map}
use Rattle.std.specs.List.{range_with_len}
use Rattle.cl_phase.specs.{Pace.previous, Walks.{pace_at, back}}
use Rattle.cl_phase.proofs.walked.missed.Given as goal

abbrev pub invariant-loop-group : goal.invariant-loop-group
invariant-loop-group l = l.arrivals ≡ map (λ group. back l.stops l.place (previous (pace_at l.stops l.place) l.start) (l.place - group)) (range_with_len 0 l.group)
