use Rattle.std.proofs.Common.{◌≡◌, ◌++◌, map}
use Rattle.std.specs.List.{range_with_len}
use Rattle.cl_picture.specs.{Pieces.print, Axis.{tick_at, tick_line}}
use Rattle.cl_picture.proofs.axis.put_ticks.Given as goal

abbrev pub invariant-loop-k : goal.invariant-loop-k
invariant-loop-k l = l.text ≡ l.initial.text ++ print (map (λ k. tick_line l.window (tick_at l.window k)) (range_with_len 0 l.k))
