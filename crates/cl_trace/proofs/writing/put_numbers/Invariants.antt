use Rattle.std.proofs.Common.{◌≡◌, ◌++◌, drop}
use Rattle.cl_trace.specs.Trace.{numbers}
use Rattle.cl_trace.proofs.writing.put_numbers.Given as goal

abbrev pub invariant-loop-number : goal.invariant-loop-number
invariant-loop-number l = l.text ++ numbers (drop l.number-index l.list) ≡ l.initial.text ++ numbers l.list
