use Rattle.cl_resp.proofs.SettledTasks.{tasks_take_time}
use Rattle.cl_resp.proofs.laws.questions.tasks_take_time.Goals as goal

pub returns : goal.returns
returns c = tasks_take_time
