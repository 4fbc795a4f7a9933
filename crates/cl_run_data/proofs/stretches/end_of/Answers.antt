use Rattle.std.proofs.Common.{arith, refl}
use Rattle.cl_run_data.proofs.StretchFacts.{last_end}
use Rattle.cl_run_data.proofs.stretches.end_of.Goals as goal

pub returns-else-count-eq0 : goal.returns-else-count-eq0
returns-else-count-eq0 c = last_end c.args.stretches.now _ _ refl (omega arith)
