use Rattle.std.proofs.Common.{arith}
use Rattle.cl_chain.specs.Inner.Hops.{IsBeforeNext}
use Rattle.cl_chain.proofs.{MomentLists.{all_moments, has_place}, MeasuredFacts.before_once}
use Rattle.cl_chain.proofs.measuring.replaced_writes.Goals as goal

pub returns : goal.returns
returns c = all_moments (IsBeforeNext c.args.writes.now) c.loop-job.replaced (before_once c.args.writes.now) c.loop-job.invariant.each
    (λ job t both. omega (arith, c.loop-job.invariant.one_a_job, c.loop-job-test.false, has_place c.args.writes.now job _ both.1.writes_then))
