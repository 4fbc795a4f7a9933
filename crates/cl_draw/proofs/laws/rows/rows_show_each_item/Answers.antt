use Rattle.std.proofs.Common.{List, map, subst, sym}
use Rattle.std.specs.Prelude.{filter}
use Rattle.cl_model.specs.ByNumber.{deadline_of, task_at}
use Rattle.cl_runs.specs.Run.{jobs_of}
use Rattle.cl_picture.specs.{declared.item.Bar.Bar, Bars.counts, Shown.AreBarsOf}
use Rattle.cl_picture.proofs.BarItems.{bars_are}
use Rattle.cl_draw.specs.Items.{bands, part_item}
use Rattle.cl_draw.proofs.laws.rows.rows_show_each_item.Goals as goal

pub returns-clause-bands : goal.returns-clause-bands
returns-clause-bands c = λ model run window task row is.
    let items = bands (jobs_of run task) (deadline_of model task) is.finishes run.table.ticks in
    subst (λ (bs : List Bar). AreBarsOf window (filter (counts window) items) bs) (sym is.bands_drawn) (bars_are window items)

pub returns-clause-parts : goal.returns-clause-parts
returns-clause-parts c = λ model run window task row is.
    let items = map (part_item (jobs_of run task) (deadline_of model task) (task_at model task).runnables) is.parts in
    subst (λ (bs : List Bar). AreBarsOf window (filter (counts window) items) bs) (sym is.parts_drawn) (bars_are window items)
