use Rattle.cl_verify.proofs.ByFindings.{no_response}
use Rattle.cl_verify.proofs.runs.Runs.see_task.Goals as goal

pub plan_task-requires-clause-response : goal.plan_task-requires-clause-response
plan_task-requires-clause-response c = no_response c.args.model.now c.args.task c.requires.task c.requires.late
