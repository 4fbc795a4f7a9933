use Rattle.std.proofs.Common.{◌≡◌, ◌+◌, ◌-◌, ◌*◌, ◌≤◌, ◌++◌, length, drop}
use Rattle.cl_trace.specs.Trace.{numbers}
use Rattle.cl_trace.proofs.writing.line_numbers.Given as goal

-- the last numbers stand before the text, and take so much room
abbrev pub invariant-loop-left : goal.invariant-loop-left
invariant-loop-left l = record {
  within : l.left ≤ length l.list;
  text : l.line ≡ numbers (drop l.left l.list) ++ l.initial.line;
  short : length l.line ≤ 1 + 21 * (length l.list - l.left);
}

abbrev pub decreases-loop-left : goal.decreases-loop-left
decreases-loop-left l = l.left
