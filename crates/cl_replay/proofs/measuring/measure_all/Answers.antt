use Rattle.std.proofs.Common.{map, arith}
use Rattle.cl_check.proofs.ModelsInOrder.{legal_chain_in_order}
use Rattle.cl_chain.specs.JobChains.{measured_of}
use Rattle.cl_replay.proofs.{MeasuredChains.{more_measured, all_measured}, SafeMargins.have_margins}
use Rattle.cl_replay.proofs.measuring.measure_all.Goals as goal

pub measure_apart-requires-clause-ordered : goal.measure_apart-requires-clause-ordered
measure_apart-requires-clause-ordered c =
    legal_chain_in_order c.args.model.now c.chains-chain-end.ensures.valid c.args.run.now c.requires c.loop-chain.chain

pub loop-chain-preserved : goal.loop-chain-preserved
loop-chain-preserved c =
    more_measured c.args.model.now c.args.run.now c.loop-chain.chain c.loop-chain.measured c.push.new.self c.in_ok-measure_apart.field-0
    c.loop-chain.invariant c.in_ok-measure_apart.ensures c.in_ok-push.ensures.ok

pub returns-clause-measured : goal.returns-clause-measured
returns-clause-measured c =
    all_measured c.args.model.now c.args.run.now c.loop-chain.chain (map measured_of c.loop-chain.measured)
    (omega (arith, c.loop-chain-test.false, c.loop-chain.auto.chain-end, c.chains-chain-end.ensures.count)) c.loop-chain.invariant

pub returns-clause-margins : goal.returns-clause-margins
returns-clause-margins c = λ findings found.
    have_margins c.args.model.now c.chains-chain-end.ensures.valid findings found c.args.run.now c.requires
    (map measured_of c.loop-chain.measured) (returns-clause-measured c)
