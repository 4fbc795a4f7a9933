use Rattle.std.proofs.Common.{◌≡◌, map, take}
use Rattle.std.specs.Prelude.{filter}
use Rattle.cl_model.specs.ByNumber.{task_at, deadline_of}
use Rattle.cl_runs.specs.Run.{jobs_of}
use Rattle.cl_picture.specs.Bars.{counts}
use Rattle.cl_draw.specs.Items.{part_item}
use Rattle.cl_draw.proofs.items.part_items.Given as goal

abbrev pub invariant-loop-part : goal.invariant-loop-part
invariant-loop-part l = l.items ≡ filter (counts l.window) (map (part_item (jobs_of l.of.run.now l.of.task) (deadline_of l.of.model.now l.of.task) (task_at l.of.model.now l.of.task).runnables) (take l.part-index l.parts))
