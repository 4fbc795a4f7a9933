use Rattle.cl_observe.specs.Observed.{IsTimeLine}
use Rattle.cl_observe.proofs.{MadeTexts.{none_made, more_made}, PutTexts.time_put}
use Rattle.cl_observe.proofs.task_lines.put_times.Goals as goal

pub loop-place-init : goal.loop-place-init
loop-place-init c = none_made (IsTimeLine c.args.model.now c.args.run.now c.args.task) c.args.text.now

pub loop-place-preserved : goal.loop-place-preserved
loop-place-preserved c =
    more_made (IsTimeLine c.args.model.now c.args.run.now c.args.task) c.loop-place.place c.args.text.now c.loop-place.text c.put_time.new.text c.loop-place.invariant
    (time_put c.args.model.now c.args.run.now c.args.task c.loop-place.place c.in_ok-time.time c.in_ok-time.ensures c.loop-place.text c.put_time.new.text
    c.in_ok-put_time.ensures)
