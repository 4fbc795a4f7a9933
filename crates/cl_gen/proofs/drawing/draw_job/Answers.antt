use Rattle.std.proofs.Common.{arith}
use Rattle.cl_gen.specs.Words.{word_of}
use Rattle.cl_gen.proofs.DrawnSoFar.{delay_few}
use Rattle.cl_gen.proofs.drawing.draw_job.Goals as goal

pub overflow_add-release : goal.overflow_add-release
overflow_add-release c =
    omega (arith, c.release_delay.ensures.drawn, delay_few c.args.pattern (word_of c.args.draws.now.seed c.args.draws.now.words) c.requires.kind)
