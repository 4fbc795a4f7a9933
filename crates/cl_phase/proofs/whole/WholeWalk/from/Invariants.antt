use Rattle.std.proofs.Common.{◌≡◌, ◌+ℤ◌, map}
use Rattle.std.specs.List.{range_with_len}
use Rattle.cl_phase.specs.{Walks.pace_at, Whole.{is_kept, missed_at, counted_at}}
use Rattle.cl_phase.proofs.whole.WholeWalk.from.Given as goal

abbrev pub invariant-loop-group : goal.invariant-loop-group
invariant-loop-group l = record {
  kept : l.kept ≡ map (λ group. is_kept (pace_at l.stops group)) (range_with_len 0 l.group);
  missed : l.missed ≡ map (λ group. missed_at l.stops l.place l.start group +ℤ l.ticks) (range_with_len 0 l.group);
  taken : l.taken ≡ map (λ group. counted_at l.kind l.stops l.place l.start group +ℤ l.ticks) (range_with_len 0 l.group);
}
