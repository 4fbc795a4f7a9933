use Rattle.cl_picture.proofs.BarItems.{bars_are}
use Rattle.cl_picture.proofs.laws.bars_show_each_item.Goals as goal

pub returns : goal.returns
returns c = bars_are
