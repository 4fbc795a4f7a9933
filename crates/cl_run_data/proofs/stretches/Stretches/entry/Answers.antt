use Rattle.std.proofs.Common.{arith, sym, ap, length}
use Rattle.cl_run_data.proofs.StretchFacts.{length-entries, entry_of_stretch}
use Rattle.cl_run_data.proofs.stretches.Stretches.entry.Goals as goal

pub stretch_of-requires-clause-within : goal.stretch_of-requires-clause-within
stretch_of-requires-clause-within c = rw c.as_slice-stretches.ensures.value (omega (arith, length-entries _ 0 c.self.invariant, ap length c.self.view_is))

pub returns : goal.returns
returns c = rw (← c.self.view_is, c.as_slice-stretches.ensures.value)
    (sym (entry_of_stretch _ c.args.tick c.stretch_of.result _ c.self.invariant (rw c.as_slice-stretches.ensures.value at c.stretch_of.ensures)))
