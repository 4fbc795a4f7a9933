use Rattle.cl_picture.proofs.BarSides.{side_by_side}
use Rattle.cl_picture.proofs.laws.bars_lie_side_by_side.Goals as goal

pub returns : goal.returns
returns c = side_by_side
