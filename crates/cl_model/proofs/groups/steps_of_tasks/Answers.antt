use Rattle.cl_model.proofs.StepFacts.{steps_of_more}
use Rattle.cl_model.proofs.groups.steps_of_tasks.Goals as goal

pub loop-i-preserved : goal.loop-i-preserved
loop-i-preserved c =
    steps_of_more c.args.tasks.now c.loop-i.i c.index-tasks-i.result c.loop-i.steps.items c.push_steps.new.steps.items c.loop-i-test.true c.index-tasks-i.is c.loop-i.invariant
    (rw c.len.ensures at c.in_ok-push_steps.ensures)
