use Rattle.cl_runs.specs.SystemOf.{system_of}
use Rattle.cl_exact.proofs.LimitFacts.{seen, found_within}
use Rattle.cl_exact.proofs.hyperperiod.is_within_limit.Goals as goal

pub returns : goal.returns
returns c =
    let system = system_of c.args.model.now in
    let of = seen system c.groups.result.now c.beats_of-numbers.result.items c.as_slice-beats.result.now c.as_slice-beats.ensures.value
    c.beats_of-numbers.ensures.of in
    rw c.is_some.ensures
    (rw c.groups.ensures.groups at (found_within system c.groups.result.now c.as_slice-beats.result.now c.hyper_limit.result c.hyperperiod.result of
    (c.hyper_limit.ensures.limit system c.groups.result.now of) c.hyperperiod.ensures))
