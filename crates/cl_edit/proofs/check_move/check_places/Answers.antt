use Rattle.cl_edit.specs.{declared.pace.Retiming.Retiming, Inner.Paces.with_retiming}
use Rattle.cl_edit.specs.declared.pace.Retiming.TheVariants as change
use Rattle.cl_edit.proofs.{PlaceChecks.first_place, RetimedTasks.change_known}
use Rattle.cl_edit.proofs.check_move.check_places.Goals as goal

pub returns : goal.returns
returns c =
    let model = c.args.model.now in
    let move : Retiming = change.Move c.args.task c.args.core c.args.priority in
    first_place (with_retiming model move) (change_known model c.requires.valid move (c.requires.task, c.requires.core)) c.first_refused-clash.result c.first_beyond.result
    c.first_refused-clash.ensures (c.first_beyond.ensures c.args.priority) c.check_first.result c.check_first.ensures
