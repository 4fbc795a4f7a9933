use Rattle.std.proofs.Common.{◌<◌, map, length, sym, ◌∙◌, arith}
use Rattle.std.proofs.lemmas.List.{get_or-map}
use Rattle.std.proofs.Math.ListN.{length-map}
use Rattle.cl_model.specs.Groups.{no_group}
use Rattle.cl_runs.specs.SystemOf.{system_of}
use Rattle.cl_hop.proofs.LoopSums.{more_sums}
use Rattle.cl_bound.specs.Bounds.{settled_timing}
use Rattle.cl_bound.proofs.BoundSums.{all_sums}
use Rattle.cl_bound.proofs.bounding.sums_along.Goals as goal

pub loop-group-preserved : goal.loop-group-preserved
unfolding no_group
loop-group-preserved c =
    let index = c.loop-group.group-index in
    let groups = c.args.groups.now in
    let timing = settled_timing (system_of c.args.model.now) in
    let within : index < length (map timing groups) = omega (arith, c.loop-group-test.true, length-map groups timing) in
    let next = c.timing_of-next.ensures.timing ∙ sym (get_or-map timing groups index no_group c.timing_of-next.result c.loop-group-test.true) in
    record {
      sums = more_sums c.args.first (map timing groups) index c.loop-group.sums c.with-sums.result c.timing_of-next.result
          c.loop-group.invariant.sums within next c.with-sums.ensures.sums;
      forward = c.with-sums.ensures.forward_near index c.loop-group.invariant.forward;
      backward = c.with-sums.ensures.backward_near index c.loop-group.invariant.backward;
    }

pub returns-clause-sums : goal.returns-clause-sums
returns-clause-sums c = all_sums (settled_timing (system_of c.args.model.now)) c.args.first c.args.groups.now c.loop-group.group-index
    c.loop-group.sums c.loop-group.invariant.sums c.loop-group-test.false
