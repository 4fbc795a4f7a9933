use Rattle.std.proofs.Common.{◌≡◌, ◌*◌, ◌≤◌}
use Rattle.std.specs.Prelude.{sum_by}
use Rattle.std.specs.List.{range_with_len}
use Rattle.cl_draw.specs.Lengths.{groups_of_chain}
use Rattle.cl_draw.proofs.room.group_count.Given as goal

abbrev pub invariant-loop-chain : goal.invariant-loop-chain
invariant-loop-chain l = record { groups : l.groups ≡ sum_by (groups_of_chain l.model) (range_with_len 0 l.chain); most : l.groups ≤ 64 * l.chain }
