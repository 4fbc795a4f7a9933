use Rattle.std.proofs.Common.{length, arith, ap}
use Rattle.cl_run_data.proofs.StretchFacts.{last_entry}
use Rattle.cl_run_data.proofs.stretches.Stretches.last.Goals as goal

pub returns : goal.returns
returns c = rw (← c.self.view_is, c.as_slice-stretches.ensures.value)
    (last_entry _ _ c.self.invariant (omega (arith, c.requires, ap length c.self.view_is)))
