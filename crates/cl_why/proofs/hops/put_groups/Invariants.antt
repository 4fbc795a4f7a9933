use Rattle.std.proofs.Common.{◌≡◌, ◌+◌, ◌++◌}
use Rattle.std.specs.List.{flat_map, range_with_len}
use Rattle.cl_why.specs.Hops.{why_group_line, why_hop_line}
use Rattle.cl_why.proofs.hops.put_groups.Given as goal

abbrev pub invariant-loop-place : goal.invariant-loop-place
invariant-loop-place l = l.text ≡ l.initial.text
    ++ flat_map (λ place. why_hop_line l.model l.chain l.walk place ++ why_group_line l.model l.chain l.walk (place + 1)) (range_with_len 0 l.place)
