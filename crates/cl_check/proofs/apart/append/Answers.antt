use Rattle.std.proofs.Common.{◌-◌, None, Some, replicate, length}
use Rattle.std.proofs.lemmas.Result.{on_ok_weaker}
use Rattle.cl_runs.specs.Run.{core_entries}
use Rattle.cl_check.proofs.ApartTasks.{list_twice}
use Rattle.cl_check.proofs.apart.append.Goals as goal

pub returns : goal.returns
returns c = on_ok_weaker c.push-2.result
    (list_twice c.args.apart.now c.push.new.self c.push-2.new.self c.args.task (replicate (c.args.from - length (core_entries c.args.apart.now c.args.task)) None)
    (replicate (c.args.to - c.args.from) (Some c.args.task)) c.requires.is_task (rw c.filled.ensures at c.in_ok-push.ensures.ok))
    c.push-2.ensures.ok
