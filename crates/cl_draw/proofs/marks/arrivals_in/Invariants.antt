use Rattle.std.proofs.Common.{◌≡◌, map}
use Rattle.std.specs.Prelude.{filter}
use Rattle.std.specs.List.{range_with_len}
use Rattle.cl_draw.specs.Marks.{is_seen, arrival_of}
use Rattle.cl_draw.proofs.marks.arrivals_in.Given as goal

abbrev pub invariant-loop-job : goal.invariant-loop-job
invariant-loop-job l = l.found ≡ filter (is_seen l.window) (map (arrival_of l.jobs) (range_with_len 0 l.job))
