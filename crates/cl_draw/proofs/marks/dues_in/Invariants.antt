use Rattle.std.proofs.Common.{◌≡◌, map, take}
use Rattle.std.specs.Prelude.{filter}
use Rattle.cl_picture.specs.Window.{is_inside}
use Rattle.cl_draw.specs.Marks.{due_of}
use Rattle.cl_draw.proofs.marks.dues_in.Given as goal

abbrev pub invariant-loop-job : goal.invariant-loop-job
invariant-loop-job l = l.found ≡ filter (is_inside l.window) (map (due_of l.deadline) (take l.job-index l.jobs))
