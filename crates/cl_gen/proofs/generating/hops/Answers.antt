use Rattle.std.proofs.Common.{◌+◌, refl}
use Rattle.cl_gen.specs.Generated.{label_name}
use Rattle.cl_gen.proofs.MappedRanges.{mapped_more}
use Rattle.cl_gen.proofs.generating.hops.Goals as goal

pub loop-hop-preserved : goal.loop-hop-preserved
loop-hop-preserved c =
    mapped_more label_name c.args.first c.loop-hop.hop (c.args.first + c.loop-hop.hop) _ _ _ refl c.loop-hop.invariant
    c.label_name.ensures c.in_ok-push.ensures.ok
