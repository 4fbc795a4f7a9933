use Rattle.cl_chain.specs.Inner.Rows.{AreRowsBelow}
use Rattle.cl_chain.proofs.rows.rows_of.Given as goal

abbrev pub invariant-loop-job : goal.invariant-loop-job
invariant-loop-job l = AreRowsBelow l.job l.starts l.ends l.rows.jobs l.rows.starts l.rows.ends
