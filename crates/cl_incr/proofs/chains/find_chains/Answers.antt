use Rattle.std.proofs.Common.{◌<◌, length, arith}
use Rattle.cl_analyse.proofs.AnswerLists.{more_chains}
use Rattle.cl_incr.specs.Changed.{IsChangedChain}
use Rattle.cl_incr.proofs.{AskedSteps.{asks_next, asks_more_of}, PutExacts.noted_next}
use Rattle.cl_incr.proofs.chains.find_chains.Goals as goal

pub returns-in_err-keep_or_find-clause-steps : goal.returns-in_err-keep_or_find-clause-steps
returns-in_err-keep_or_find-clause-steps g c =
    asks_more_of (IsChangedChain c.args.old.now c.args.new.now) 2 c.loop-chain.chain (length c.args.new.now.chains) c.args.steps.now c.loop-chain.steps
    c.keep_or_find.new.steps c.loop-chain.invariant.asked c.keep_or_find.ensures.steps (omega (arith, c.loop-chain-test.true, c.chains-chain-end.ensures.count))

pub returns-in_err-push-clause-steps : goal.returns-in_err-push-clause-steps
returns-in_err-push-clause-steps g c =
    asks_more_of (IsChangedChain c.args.old.now c.args.new.now) 2 c.loop-chain.chain (length c.args.new.now.chains) c.args.steps.now c.loop-chain.steps
    c.keep_or_find.new.steps c.loop-chain.invariant.asked c.keep_or_find.ensures.steps (omega (arith, c.loop-chain-test.true, c.chains-chain-end.ensures.count))

pub loop-chain-preserved : goal.loop-chain-preserved
loop-chain-preserved g c =
    let new = c.args.new.now in
    let chain = c.loop-chain.chain in
    let within : c.loop-chain.chain < length c.args.new.now.chains = omega (arith, c.loop-chain-test.true, c.chains-chain-end.ensures.count) in
    record {
      bounds = more_chains new chain c.loop-chain.bounds c.push.new.self c.in_ok-keep_or_find.field-0 within c.loop-chain.invariant.bounds
          c.in_ok-keep_or_find.ensures.bounds c.in_ok-push.ensures.ok;
      noted = noted_next c.args.old.now new c.args.findings.now.exacts chain within c.loop-chain.noted.items c.loop-chain.invariant.noted
          c.keep_or_find.new.noted.items c.in_ok-keep_or_find.ensures.noted;
      asked = asks_next (IsChangedChain c.args.old.now new) 2 chain c.args.steps.now c.loop-chain.steps c.keep_or_find.new.steps
          c.loop-chain.invariant.asked c.keep_or_find.ensures.steps;
    }
