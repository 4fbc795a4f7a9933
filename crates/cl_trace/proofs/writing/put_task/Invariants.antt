use Rattle.std.proofs.Common.{◌≡◌, ◌++◌, drop, map}
use Rattle.cl_trace.specs.Trace.{JobOf, text_of}
use Rattle.cl_trace.proofs.writing.put_task.Given as goal

abbrev pub invariant-loop-job : goal.invariant-loop-job
invariant-loop-job l = l.text ++ text_of l.model (map (JobOf l.task) (drop l.job-index l.jobs)) ≡ l.initial.text ++ text_of l.model (map (JobOf l.task) l.jobs)
