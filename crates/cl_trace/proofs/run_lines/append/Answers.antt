use Rattle.std.proofs.Common.{◌-◌, None, Some, replicate, length}
use Rattle.std.proofs.lemmas.Result.{on_ok_weaker}
use Rattle.cl_runs.specs.Run.{core_entries}
use Rattle.cl_trace.proofs.RunWith.{with_two}
use Rattle.cl_trace.proofs.run_lines.append.Goals as goal

pub returns : goal.returns
returns c = on_ok_weaker c.push-2.result
    (with_two c.args.run.now c.push.new.self c.push-2.new.self c.args.core (replicate (c.args.line.from - length (core_entries c.args.run.now c.args.core)) None)
    (replicate (c.args.line.to - c.args.line.from) (Some c.args.line.task)) c.requires.is_core (rw c.filled.ensures at c.in_ok-push.ensures.ok))
    c.push-2.ensures.ok
