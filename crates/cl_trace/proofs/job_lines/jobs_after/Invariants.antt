use Rattle.std.proofs.Common.{◌≡◌, ◌++◌, length, map}
use Rattle.std.specs.List.{All}
use Rattle.cl_trace.specs.{Trace.{JobOf, text_of}, Rules.IsJobOf}
use Rattle.cl_trace.proofs.job_lines.jobs_after.Given as goal

abbrev pub invariant-loop-job : goal.invariant-loop-job
invariant-loop-job l = All (IsJobOf l.model l.task) l.jobs × (l.initial.left ≡ text_of l.model (map (JobOf l.task) l.jobs) ++ l.left)

abbrev pub decreases-loop-job : goal.decreases-loop-job
decreases-loop-job l = length l.left
