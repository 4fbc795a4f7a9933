use Rattle.std.proofs.Common.{◌-◌, length, ap, ◌∙◌, take, drop, arith}
use Rattle.cl_io.specs.Sink.{appended}
use Rattle.cl_io.proofs.Written.{appended-take}
use Rattle.cl_io.proofs.sink.write_all.Goals as goal

pub loop-written-preserved : goal.loop-written-preserved
loop-written-preserved g c =
    let piece = c.args.piece.now in
    let answer = c.in-Ok.ensures.answer in
    record {
      fits = omega (arith, answer);
      taken = answer.3 ∙ ap (λ w. appended w (take c.in-Ok.taken (take (length piece - c.loop-written.written) (drop c.loop-written.written piece)))) c.loop-written.invariant.taken ∙ appended-take _ c.loop-written.written c.in-Ok.taken piece;
      faults = answer.2 ∙ c.loop-written.invariant.faults;
      untouched = λ h. absurd (omega (arith, answer));
    }
