use Rattle.cl_draw.proofs.RowSides.{bands_beside, parts_beside}
use Rattle.cl_draw.proofs.laws.rows.bars_of_a_row_lie_side_by_side.Goals as goal

pub returns-clause-bands : goal.returns-clause-bands
returns-clause-bands c = λ model valid run legal from to ordered within task known row is.
    bands_beside model run task (record { is_task = known; valid = valid; legal = legal }) from to ordered within row is

pub returns-clause-parts : goal.returns-clause-parts
returns-clause-parts c = λ model valid run legal from to ordered within task known row is.
    parts_beside model run task (record { is_task = known; valid = valid; legal = legal }) from to ordered within row is
