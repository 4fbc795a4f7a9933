use Rattle.std.proofs.Common.{◌≡◌, ◌+◌, ◌++◌, pos, slice_index_or}
use Rattle.std.specs.List.{flat_map, range_with_len}
use Rattle.cl_explain.specs.Explanation.{arrival_line}
use Rattle.cl_explain.proofs.tight.put_arrivals.Given as goal

abbrev pub invariant-loop-arrival : goal.invariant-loop-arrival
invariant-loop-arrival l = (l.place ≡ l.from + l.arrival-index)
    × (l.text ≡ l.initial.text ++ flat_map (λ n. arrival_line l.word l.model l.chain (l.from + n) (slice_index_or l.arrivals n (pos 0))) (range_with_len 0 l.arrival-index))
