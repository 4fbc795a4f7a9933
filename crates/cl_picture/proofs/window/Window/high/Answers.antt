use Rattle.std.proofs.Common.{rules}
use Rattle.cl_picture.specs.Window.{high_of}
use Rattle.cl_picture.proofs.window.Window.high.Goals as goal

pub returns : goal.returns
unfolding high_of
returns c = search (rules)
