use Rattle.std.proofs.Common.{arith}
use Rattle.cl_cut.proofs.OneCutAnswer.{all_answers, all_safe, all_no_worse}
use Rattle.cl_cut.proofs.cutting.best_cuts.Goals as goal

pub returns-clause-cuts : goal.returns-clause-cuts
returns-clause-cuts g c =
    all_answers c.args.model.now c.loop-chain.chain c.loop-chain.answers (omega (arith, c.loop-chain-test.false, c.chains-chain-end.ensures.count))
    c.loop-chain.invariant

pub returns-clause-safe : goal.returns-clause-safe
returns-clause-safe g c = all_safe c.args.model.now c.chains-chain-end.ensures.valid c.loop-chain.answers (returns-clause-cuts g c)

pub returns-clause-no_worse : goal.returns-clause-no_worse
returns-clause-no_worse g c = all_no_worse c.args.model.now c.chains-chain-end.ensures.valid c.loop-chain.answers (returns-clause-cuts g c)
