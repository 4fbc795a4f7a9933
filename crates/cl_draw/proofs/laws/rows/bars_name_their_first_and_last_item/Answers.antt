use Rattle.cl_draw.proofs.HoverFacts.{bar_says}
use Rattle.cl_draw.proofs.laws.rows.bars_name_their_first_and_last_item.Goals as goal

pub returns : goal.returns
returns c = bar_says
