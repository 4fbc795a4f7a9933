use Rattle.std.proofs.Common.{arith}
use Rattle.cl_model.specs.ByNumber.{no_runnable}
use Rattle.cl_runs.specs.SystemOf.{range_of}
use Rattle.cl_incr.proofs.SameQuestions.{same_maps}
use Rattle.cl_incr.proofs.timings.have_same_ranges.Goals as goal

pub returns : goal.returns
returns c = λ all. same_maps range_of range_of c.args.one.now c.args.other.now no_runnable no_runnable (omega (arith, c.if-one-other.false))
    (λ k within. c.loop-place.invariant k (omega (arith, within, c.if-one-other.false, c.loop-place-test.false)))
