use Rattle.cl_model.proofs.StepFacts.{steps_in_more}
use Rattle.cl_model.proofs.groups.push_steps.Goals as goal

pub loop-place-preserved : goal.loop-place-preserved
loop-place-preserved c = steps_in_more c.args.steps.now.items c.args.task c.loop-place.place c.loop-place.steps.items c.push.new.self.items c.loop-place.invariant c.in_ok-push.ensures.items
