use Rattle.std.proofs.Common.{rules}
use Rattle.cl_exact.specs.Inner.Beats.{last_writer}
use Rattle.cl_exact.proofs.beat.Beat.last_writer.Goals as goal

pub returns : goal.returns
unfolding last_writer
returns c = search rules
