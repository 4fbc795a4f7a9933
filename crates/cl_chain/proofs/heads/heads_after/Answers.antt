use Rattle.std.proofs.Common.{arith}
use Rattle.cl_chain.specs.Inner.Hops.{GoesOnFrom}
use Rattle.cl_chain.proofs.{MomentLists.all_moments, HeadFacts.{goes_from_once, goes_from_within}}
use Rattle.cl_chain.proofs.heads.heads_after.Goals as goal

pub returns : goal.returns
returns c = all_moments (GoesOnFrom c.args.writes.now c.args.reads.now c.args.heads.now) c.loop-job.found
    (goes_from_once c.args.writes.now c.args.reads.now c.args.heads.now) c.loop-job.invariant.each
    (λ job t goes. omega (
      arith,
      c.loop-job.invariant.one_a_job,
      c.loop-job-test.false,
      goes_from_within c.args.writes.now c.args.reads.now c.args.heads.now job t goes,
    ))
