use Rattle.std.proofs.Common.{sym}
use Rattle.cl_chain.proofs.HeadFacts.{head_unwritten}
use Rattle.cl_chain.proofs.heads.head_of.Goals as goal

pub returns-in_err-writer-clause-head : goal.returns-in_err-writer-clause-head
returns-in_err-writer-clause-head c = rw c.from_residual-in_err-writer.ensures
    (head_unwritten c.args.writes.now c.args.reads.now c.args.heads.now c.args.job c.in_ok-read.read (sym c.in_ok-read.ensures) c.in_err-writer.ensures.writer)
