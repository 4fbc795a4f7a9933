use Rattle.std.proofs.Common.{refl, arith}
use Rattle.std.specs.Prelude.{slice_index}
use Rattle.cl_exact.proofs.{BeatFacts.reader_soon, BlockFacts.first_read}
use Rattle.cl_exact.proofs.hop.hop.Goals as goal

pub loop-i-init : goal.loop-i-init
loop-i-init c = record {
  done = λ k below. absurd (omega arith);
  left = λ k from below. refl;
  read = λ k from below. first_read c.args.reader.now c.requires.beat (slice_index c.args.moments.now k);
}

pub overflow_add-moments : goal.overflow_add-moments
overflow_add-moments c =
    let is = c.requires.beat in
    let moment = slice_index c.loop-i.moments c.loop-i.i in
    let here = c.loop-i.invariant.left c.loop-i.i (omega arith) (omega (arith, c.loop-i-test.true)) in
    let early = c.requires.early c.loop-i.i (omega (arith, c.loop-i.auto.moments, c.loop-i-test.true)) in
    omega (arith, reader_soon c.args.reader.now is.some_period moment, is.offset, is.period, is.deadline, here, early, c.next_read-read.ensures)
