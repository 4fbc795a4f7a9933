use Rattle.std.proofs.Common.{◌≡◌, map}
use Rattle.std.specs.Prelude.{filter}
use Rattle.std.specs.List.{range_with_len}
use Rattle.cl_model.specs.ByNumber.{deadline_of}
use Rattle.cl_runs.specs.Run.{jobs_of}
use Rattle.cl_picture.specs.Bars.{counts}
use Rattle.cl_draw.specs.Items.{band}
use Rattle.cl_draw.proofs.items.bands_in.Given as goal

abbrev pub invariant-loop-job : goal.invariant-loop-job
invariant-loop-job l = l.items ≡ filter (counts l.window) (map (band (jobs_of l.of.run.now l.of.task) (deadline_of l.of.model.now l.of.task) l.finishes l.of.run.now.table.ticks) (range_with_len 0 l.job))
