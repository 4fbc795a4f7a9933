use Rattle.std.proofs.Common.{◌≡◌, map, take}
use Rattle.std.specs.Prelude.{filter}
use Rattle.cl_draw.specs.Marks.{is_wait, wait_of}
use Rattle.cl_draw.proofs.marks.waits_in.Given as goal

abbrev pub invariant-loop-job : goal.invariant-loop-job
invariant-loop-job l = l.found ≡ filter (is_wait l.window) (map (wait_of) (take l.job-index l.jobs))
