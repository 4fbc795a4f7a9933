use Rattle.std.proofs.Common.{ap, arith}
use Rattle.cl_exact.specs.Inner.Beats.{read_at}
use Rattle.cl_exact.proofs.{BeatFacts.reader_soon, BlockFacts.{read_stays, read_moves}}
use Rattle.cl_exact.proofs.hop.next_read.Goals as goal

pub returns-then-moment-read : goal.returns-then-moment-read
returns-then-moment-read c = read_stays c.args.reader.now c.requires.beat c.args.read c.args.moment c.requires.read c.if-moment-read.true

pub returns-then-moment-read-2 : goal.returns-then-moment-read-2
returns-then-moment-read-2 c =
    read_moves c.args.reader.now c.requires.beat c.args.read c.args.moment c.requires.read c.if-moment-read.false c.if-moment-read-2.true

pub read-requires : goal.read-requires
read-requires c =
    let is = c.requires.beat in
    omega (arith, reader_soon c.args.reader.now is.some_period c.args.moment, is.offset, is.period, c.requires.early, ap (read_at c.args.reader.now) c.first_reader.ensures)
