use Rattle.std.proofs.Common.{arith}
use Rattle.cl_chain.specs.Inner.Hops.{IsWrite}
use Rattle.cl_chain.proofs.{MomentLists.{all_moments, has_place}, HopFacts.write_once}
use Rattle.cl_chain.proofs.tails.last_tails.Goals as goal

pub returns : goal.returns
returns c = all_moments (IsWrite c.args.writes.now) c.loop-job.tails (write_once c.args.writes.now) c.loop-job.invariant.each
    (λ job t write. omega (arith, c.loop-job.invariant.one_a_job, c.loop-job-test.false, has_place c.args.writes.now job t write.writes_then))
