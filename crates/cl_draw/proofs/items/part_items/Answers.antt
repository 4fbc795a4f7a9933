use Rattle.std.proofs.Common.{◌++◌, refl, ap, ◌∙◌, arith, Option}
use Rattle.std.specs.Option.{option_to_list}
use Rattle.cl_model.specs.ByNumber.{task_at, deadline_of}
use Rattle.cl_runs.specs.Run.{jobs_of}
use Rattle.cl_picture.specs.{declared.item.Item.Item, Bars.counts}
use Rattle.cl_draw.specs.Items.{part_item}
use Rattle.cl_draw.proofs.Filtered.{kept_item, kept_all}
use Rattle.cl_draw.proofs.items.part_items.Goals as goal

pub loop-part-preserved : goal.loop-part-preserved
loop-part-preserved c = kept_item (counts c.args.window) (part_item (jobs_of c.args.of.run.now c.args.of.task) (deadline_of c.args.of.model.now c.args.of.task) (task_at c.args.of.model.now c.args.of.task).runnables)
    c.args.parts.now _ _ _ _ c.loop-part.part-index (omega arith) refl c.loop-part.invariant
    (c.in_ok-keep.ensures ∙ ap (λ (o : Option Item). c.loop-part.items ++ option_to_list o) c.part_in.ensures)

pub returns : goal.returns
returns c = kept_all (counts c.args.window) (part_item (jobs_of c.args.of.run.now c.args.of.task) (deadline_of c.args.of.model.now c.args.of.task) (task_at c.args.of.model.now c.args.of.task).runnables) c.args.parts.now _ c.loop-part.part-index (omega arith) c.loop-part.invariant
