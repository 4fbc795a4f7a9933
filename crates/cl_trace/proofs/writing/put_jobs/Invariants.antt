use Rattle.std.proofs.Common.{◌≡◌, ◌++◌}
use Rattle.std.specs.List.{flat_map, range_with_len}
use Rattle.cl_trace.specs.Trace.{text_of, task_items}
use Rattle.cl_trace.proofs.writing.put_jobs.Given as goal

abbrev pub invariant-loop-task : goal.invariant-loop-task
invariant-loop-task l = l.text ≡ l.initial.text ++ text_of l.model (flat_map (task_items l.run) (range_with_len 0 l.task))
