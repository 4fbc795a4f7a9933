use Rattle.std.proofs.Common.{arith}
use Rattle.cl_chain.specs.Inner.Hops.{GoesOnTo}
use Rattle.cl_chain.proofs.{MomentLists.all_moments, TailFacts.{goes_to_once, goes_to_within}}
use Rattle.cl_chain.proofs.tails.tails_before.Goals as goal

pub returns : goal.returns
returns c = all_moments (GoesOnTo c.args.writes.now c.args.reads.now c.args.tails.now) c.loop-job.found
    (goes_to_once c.args.writes.now c.args.reads.now c.args.tails.now) c.loop-job.invariant.each
    (λ job t goes. omega (
      arith,
      c.loop-job.invariant.one_a_job,
      c.loop-job-test.false,
      goes_to_within c.args.writes.now c.args.reads.now c.args.tails.now job t goes,
    ))
