use Rattle.std.proofs.Common.{arith}
use Rattle.cl_chain.specs.Inner.Hops.{IsOfNext}
use Rattle.cl_chain.proofs.{MomentLists.{all_moments, has_place}, MeasuredFacts.next_once}
use Rattle.cl_chain.proofs.measuring.later_writes.Goals as goal

pub returns : goal.returns
returns c = all_moments (IsOfNext c.args.writes.now) c.loop-job.later (next_once c.args.writes.now) c.loop-job.invariant.each
    (λ job t both. omega (arith, c.loop-job.invariant.one_a_job, c.loop-job-test.false, has_place c.args.writes.now job _ both.1.writes_then))
