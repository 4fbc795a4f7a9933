use Rattle.std.proofs.Common.{◌≡◌, map}
use Rattle.std.specs.List.{range_with_len}
use Rattle.cl_gen.specs.Generated.{label_name}
use Rattle.cl_gen.proofs.generating.hops.Given as goal

abbrev pub invariant-loop-hop : goal.invariant-loop-hop
invariant-loop-hop l = l.names ≡ map label_name (range_with_len l.first l.hop)
