use Rattle.std.proofs.Common.{arith, ap, length}
use Rattle.cl_run_data.proofs.StretchFacts.{length-entries}
use Rattle.cl_run_data.proofs.stretches.Stretches.filled.Goals as goal

pub returns : goal.returns
returns c = rw (c.end_of.ensures, c.as_slice.ensures.value) (omega (arith, length-entries _ 0 c.self.invariant, ap length c.self.view_is))
