use Rattle.std.proofs.Common.{arith}
use Rattle.cl_exact.proofs.BeatFacts.{reader_is}
use Rattle.cl_exact.proofs.beat.Beat.first_reader.Goals as goal

pub returns : goal.returns
returns c = reader_is c.args.self.now c.requires.some_period c.args.moment c.ceil_div.result
    (omega (arith, c.ceil_div.ensures.enough, c.saturating_sub.ensures))
    (λ other after. c.ceil_div.ensures.least other (omega (arith, c.saturating_sub.ensures)))
