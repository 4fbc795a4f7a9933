use Rattle.std.proofs.Common.{◌≡◌, ◌-◌, ◌≤◌, length, take}
use Rattle.cl_io.specs.Sink.{appended}
use Rattle.cl_io.proofs.sink.write_all.Given as goal

-- exactly the first `written` bytes were taken, and before the first call the sink is as it was
abbrev pub invariant-loop-written : goal.invariant-loop-written
invariant-loop-written g l = record {
  fits : l.written ≤ length l.piece;
  taken : g.K.Sink.written l.sink ≡ appended (g.K.Sink.written l.fn.sink) (take l.written l.piece);
  faults : g.K.Sink.faults l.sink ≡ g.K.Sink.faults l.fn.sink;
  untouched : l.written ≡ 0 → l.sink ≡ l.fn.sink;
}

abbrev pub decreases-loop-written : goal.decreases-loop-written
decreases-loop-written g l = length l.piece - l.written
