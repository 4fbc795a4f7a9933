use Rattle.std.proofs.Common.{◌<◌, length, arith}
use Rattle.cl_gen.proofs.WishedTimes.{one_more_time}
use Rattle.cl_gen.proofs.wishing.wished_times.Goals as goal

pub loop-place-preserved : goal.loop-place-preserved
loop-place-preserved g c =
    let within : c.loop-place.place < length c.args.runnables.now = omega (arith, c.loop-place-test.true) in
    one_more_time c.args.runnables.now c.loop-place.place c.index-runnables-place.result c.loop-place.times c.push.new.self c.clamp.result
    within c.index-runnables-place.is c.loop-place.invariant c.in_ok-push.ensures.ok c.clamp.ensures.least c.clamp.ensures.greatest
