use Rattle.std.proofs.Common.{ap, ◌∙◌, arith}
use Rattle.cl_chain.specs.Inner.GroupTables.{moment_at}
use Rattle.cl_chain.proofs.HopFacts.{one_passed, writer_found, later_writes, no_writes}
use Rattle.cl_chain.proofs.hops.Writers.latest_writer.Goals as goal

pub returns-then-is_after-clause-writer : goal.returns-then-is_after-clause-writer
returns-then-is_after-clause-writer c =
    let (w, has, after) = c.is_after.ensures.after c.if-is_after.true in
    writer_found c.args.writes.now c.loop-job.self c.args.read c.loop-job.invariant.1
    (later_writes c.args.writes.now c.loop-job.self c.args.read c.loop-job.invariant.1 c.requires.order w
    (ap (moment_at c.args.writes.now) c.loop-job.invariant.0 ∙ has) after)

pub loop-job-preserved : goal.loop-job-preserved
loop-job-preserved c =
    rw c.pass.ensures (
      omega (arith, c.loop-job.invariant.0),
      one_passed c.args.writes.now c.loop-job.self c.args.read c.loop-job.invariant.1 _
          (ap (moment_at c.args.writes.now) c.loop-job.invariant.0) (c.is_after.ensures.by c.if-is_after.false),
    )

pub returns-clause-writer : goal.returns-clause-writer
returns-clause-writer c = writer_found c.args.writes.now c.loop-job.self c.args.read c.loop-job.invariant.1
    (no_writes c.args.writes.now c.loop-job.self c.args.read c.loop-job.invariant.1 (omega (arith, c.loop-job-test.false, c.loop-job.invariant.0)))
