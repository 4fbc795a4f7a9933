use Rattle.std.proofs.Common.{◌-◌, ap, arith}
use Rattle.cl_exact.specs.Inner.Beats.{beat_in, write_at}
use Rattle.cl_exact.proofs.ForwardJobs.{writes_soon}
use Rattle.cl_exact.proofs.walk.forward_jobs.Goals as goal

pub write-requires : goal.write-requires
write-requires c =
    let place = c.loop-i.i - 1 in
    omega (
      arith,
      writes_soon c.args.beats.now c.requires.beats c.args.first place (omega (arith, c.loop-i-test.true)),
      ap (write_at (beat_in c.args.beats.now place)) (c.loop-i.invariant.each place (omega (arith, c.loop-i.invariant.some))),
      c.requires.early,
      c.requires.beats.few,
      c.loop-i-test.true,
    )
