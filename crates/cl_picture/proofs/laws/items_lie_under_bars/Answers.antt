use Rattle.cl_picture.proofs.BarSides.{lie_under}
use Rattle.cl_picture.proofs.laws.items_lie_under_bars.Goals as goal

pub returns : goal.returns
returns c = lie_under
