use Rattle.std.proofs.Common.{rules}
use Rattle.cl_picture.specs.Window.{low_of}
use Rattle.cl_picture.proofs.window.Window.low.Goals as goal

pub returns : goal.returns
unfolding low_of
returns c = search (rules)
