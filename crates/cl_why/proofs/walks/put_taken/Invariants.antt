use Rattle.std.proofs.Common.{◌≡◌, ◌++◌, codes}
use Rattle.std.specs.List.{flat_map, range_with_len}
use Rattle.cl_why.specs.{Hops.{timing_at_place, taken_arrival}, Walks.job_line}
use Rattle.cl_why.proofs.walks.put_taken.Given as goal

abbrev pub invariant-loop-place : goal.invariant-loop-place
invariant-loop-place l = l.text ≡ l.initial.text
    ++ flat_map (λ place. job_line (codes "taken ") (codes " write ") l.model l.chain place (taken_arrival l.walk place) (timing_at_place l.model l.chain place).write)
    (range_with_len 0 l.place)
