use Rattle.std.proofs.Common.{◌≡◌, ◌++◌, drop}
use Rattle.cl_trace.specs.Trace.{text_of, stretch_items}
use Rattle.cl_trace.proofs.writing.put_stretches.Given as goal

abbrev pub invariant-loop-stretch : goal.invariant-loop-stretch
invariant-loop-stretch l =
    l.text ++ text_of l.model (stretch_items l.from (drop l.stretch-index l.stretches)) ≡ l.initial.text ++ text_of l.model (stretch_items 0 l.stretches)
