use Rattle.std.proofs.Common.{◌++◌, map, ap, ◌∙◌, arith, length, Option}
use Rattle.std.specs.Prelude.{filter}
use Rattle.std.specs.Option.{option_to_list}
use Rattle.std.specs.List.{range_with_len}
use Rattle.cl_model.specs.ByNumber.{deadline_of}
use Rattle.cl_runs.specs.Run.{jobs_of}
use Rattle.cl_picture.specs.{declared.item.Item.Item, Bars.counts}
use Rattle.cl_draw.specs.Items.{band}
use Rattle.cl_draw.proofs.Filtered.{kept_number}
use Rattle.cl_draw.proofs.items.bands_in.Goals as goal

pub loop-job-preserved : goal.loop-job-preserved
loop-job-preserved c = kept_number (counts c.args.window) (band (jobs_of c.args.of.run.now c.args.of.task) (deadline_of c.args.of.model.now c.args.of.task) c.args.finishes.now c.args.of.run.now.table.ticks) _ _ c.loop-job.job c.loop-job.invariant
    (c.in_ok-keep.ensures ∙ ap (λ (o : Option Item). c.loop-job.items ++ option_to_list o) c.band_in.ensures)

pub returns : goal.returns
returns c = c.loop-job.invariant ∙ ap (λ n. filter (counts c.args.window) (map (band (jobs_of c.args.of.run.now c.args.of.task) (deadline_of c.args.of.model.now c.args.of.task) c.args.finishes.now c.args.of.run.now.table.ticks) (range_with_len 0 n)))
    (omega (arith, c.loop-job-test.false, c.loop-job.auto.job-end, ap length c.jobs-job-end.ensures))
