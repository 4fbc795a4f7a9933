use Rattle.std.proofs.Common.{◌-◌, ◌<◌, length, arith}
use Rattle.std.proofs.lemmas.Result.{IfOk-weaker}
use Rattle.cl_chain.specs.JobChains.{option_of}
use Rattle.cl_chain.proofs.{TailFacts.writes_looked_up, BackwardFacts.{reduced_found, no_reduced}}
use Rattle.cl_chain.proofs.backward_jobs.reduced_over.Goals as goal

pub returns-in-Some : goal.returns-in-Some
returns-in-Some c =
    let last : length c.args.groups.now - 1 < length c.args.groups.now = omega (arith, c.requires.some) in
    IfOk-weaker c.backward_to.result _ _
    (λ found. reduced_found c.args.groups.now _ (writes_looked_up c.args.groups.now _ last _ _ c.as_slice-writes.ensures) c.args.last _ _ c.in-Some.ensures (option_of found))
    c.backward_to.ensures

pub returns-in-None : goal.returns-in-None
returns-in-None c =
    let last : length c.args.groups.now - 1 < length c.args.groups.now = omega (arith, c.requires.some) in
    no_reduced c.args.groups.now _ (writes_looked_up c.args.groups.now _ last _ _ c.as_slice-writes.ensures) c.args.last c.in-None.ensures
