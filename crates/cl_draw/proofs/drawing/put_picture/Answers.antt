use Rattle.std.proofs.Common.{ap}
use Rattle.std.proofs.lemmas.Result.{IfOk-weaker}
use Rattle.cl_runs.specs.declared.job.JobTable.{JobTable}
use Rattle.cl_draw.proofs.PictureFacts.{all_put}
use Rattle.cl_draw.proofs.drawing.put_picture.Goals as goal

pub returns : goal.returns
returns c = IfOk-weaker c.put_end.result _ _
    (λ _ ended. all_put c.args.model.now c.args.run.now c.args.drawing.now.window c.args.drawing.now.rows c.args.drawing.now.reactions c.bottom-bottom.result c.table.result.now.ticks
    c.bottom-bottom.ensures.bottom (ap (λ (t : JobTable). t.ticks) c.table.ensures) _ _ _ _ _ _ _ _
    c.in_ok-put_begin.ensures.ok c.in_ok-put_heads.ensures c.in_ok-put_names.ensures c.in_ok-put_axis.ensures.ok c.in_ok-put_rows.ensures c.in_ok-put_chains.ensures ended)
    c.put_end.ensures.ok
