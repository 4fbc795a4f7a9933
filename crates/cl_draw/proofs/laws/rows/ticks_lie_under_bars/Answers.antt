use Rattle.cl_draw.proofs.RowSides.{tick_under}
use Rattle.cl_draw.proofs.laws.rows.ticks_lie_under_bars.Goals as goal

pub returns : goal.returns
returns c = λ model valid run legal from to ordered within task known row is.
    tick_under model run task (record { is_task = known; valid = valid; legal = legal }) from to ordered within row is
